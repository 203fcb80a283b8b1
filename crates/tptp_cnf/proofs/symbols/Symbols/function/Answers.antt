use Rattle.std.proofs.Common.{◌≡◌, List, sym, ap, subst, ◌∙◌}
use Rattle.me_terms.specs.Signatures.{with_symbol, number_of}
use Rattle.me_terms.specs.Values.{SymbolValue, SignatureValue}
use Rattle.tptp_cnf.specs.Rows.{symbol_as}
use Rattle.tptp_cnf.specs.Views.{item_value}
use Rattle.tptp_cnf.specs.Lookup.{Entries, AreMet}
use Rattle.tptp_cnf.proofs.Lookup.{added_number, still_met, noted}
use Rattle.tptp_cnf.proofs.symbols.Symbols.function.Goals as goal

pub invariant_of-self-in_err-note : goal.invariant_of-self-in_err-note
invariant_of-self-in_err-note c =
    let s : SymbolValue = symbol_as (item_value c.args.item.now) in
    let added : c.add_fun.new.self.functions ≡ with_symbol c.self.inside.signature.functions s = ap (λ (x : SignatureValue). x.functions) c.in_ok-number.ensures.added ∙ ap (with_symbol c.self.inside.signature.functions) c.in_ok-symbol.ensures in
    let others : c.add_fun.new.self.predicates ≡ c.self.inside.signature.predicates = ap (λ (x : SignatureValue). x.predicates) c.in_ok-number.ensures.added in
    let still : AreMet c.add_fun.new.self.functions c.self.inside.functions.entries = still_met c.self.inside.signature.functions c.add_fun.new.self.functions s c.self.inside.functions.entries added c.self.invariant.0 in (
      subst (λ (x : Entries). AreMet c.add_fun.new.self.functions x) (sym c.in_err-note.ensures.err) still,
      subst (λ (x : List SymbolValue). AreMet x c.self.inside.predicates.entries) (sym others) c.self.invariant.1,
    )

pub invariant_of-self-2 : goal.invariant_of-self-2
invariant_of-self-2 c =
    let s : SymbolValue = symbol_as (item_value c.args.item.now) in
    let added : c.add_fun.new.self.functions ≡ with_symbol c.self.inside.signature.functions s = ap (λ (x : SignatureValue). x.functions) c.in_ok-number.ensures.added ∙ ap (with_symbol c.self.inside.signature.functions) c.in_ok-symbol.ensures in
    let others : c.add_fun.new.self.predicates ≡ c.self.inside.signature.predicates = ap (λ (x : SignatureValue). x.predicates) c.in_ok-number.ensures.added in
    let still : AreMet c.add_fun.new.self.functions c.self.inside.functions.entries = still_met c.self.inside.signature.functions c.add_fun.new.self.functions s c.self.inside.functions.entries added c.self.invariant.0 in
    let number = added_number c.self.inside.signature.functions c.add_fun.new.self.functions s _ added (c.in_ok-number.ensures.number ∙ ap (λ (x : SymbolValue). number_of x c.add_fun.new.self.functions) c.in_ok-symbol.ensures) in (
      noted c.add_fun.new.self.functions c.self.inside.functions.entries c.note.new.met.entries c.args.item.now _ still c.in_ok-note.ensures.ok number,
      subst (λ (x : List SymbolValue). AreMet x c.self.inside.predicates.entries) (sym others) c.self.invariant.1,
    )
