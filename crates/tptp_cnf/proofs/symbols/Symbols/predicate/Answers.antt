use Rattle.std.proofs.Common.{◌≡◌, List, sym, ap, subst, ◌∙◌}
use Rattle.me_terms.specs.Signatures.{with_symbol, number_of}
use Rattle.me_terms.specs.Values.{SymbolValue, SignatureValue}
use Rattle.tptp_cnf.specs.Rows.{symbol_as}
use Rattle.tptp_cnf.specs.Views.{item_value}
use Rattle.tptp_cnf.specs.Lookup.{Entries, AreMet}
use Rattle.tptp_cnf.proofs.Lookup.{added_number, still_met, noted}
use Rattle.tptp_cnf.proofs.symbols.Symbols.predicate.Goals as goal

pub invariant_of-self-in_err-note : goal.invariant_of-self-in_err-note
invariant_of-self-in_err-note c =
    let s : SymbolValue = symbol_as (item_value c.args.item.now) in
    let added : c.add_pred.new.self.predicates ≡ with_symbol c.self.inside.signature.predicates s = ap (λ (x : SignatureValue). x.predicates) c.in_ok-number.ensures.added ∙ ap (with_symbol c.self.inside.signature.predicates) c.in_ok-symbol.ensures in
    let others : c.add_pred.new.self.functions ≡ c.self.inside.signature.functions = ap (λ (x : SignatureValue). x.functions) c.in_ok-number.ensures.added in
    let still : AreMet c.add_pred.new.self.predicates c.self.inside.predicates.entries = still_met c.self.inside.signature.predicates c.add_pred.new.self.predicates s c.self.inside.predicates.entries added c.self.invariant.1 in (
      subst (λ (x : List SymbolValue). AreMet x c.self.inside.functions.entries) (sym others) c.self.invariant.0,
      subst (λ (x : Entries). AreMet c.add_pred.new.self.predicates x) (sym c.in_err-note.ensures.err) still,
    )

pub invariant_of-self-2 : goal.invariant_of-self-2
invariant_of-self-2 c =
    let s : SymbolValue = symbol_as (item_value c.args.item.now) in
    let added : c.add_pred.new.self.predicates ≡ with_symbol c.self.inside.signature.predicates s = ap (λ (x : SignatureValue). x.predicates) c.in_ok-number.ensures.added ∙ ap (with_symbol c.self.inside.signature.predicates) c.in_ok-symbol.ensures in
    let others : c.add_pred.new.self.functions ≡ c.self.inside.signature.functions = ap (λ (x : SignatureValue). x.functions) c.in_ok-number.ensures.added in
    let still : AreMet c.add_pred.new.self.predicates c.self.inside.predicates.entries = still_met c.self.inside.signature.predicates c.add_pred.new.self.predicates s c.self.inside.predicates.entries added c.self.invariant.1 in
    let number = added_number c.self.inside.signature.predicates c.add_pred.new.self.predicates s _ added (c.in_ok-number.ensures.number ∙ ap (λ (x : SymbolValue). number_of x c.add_pred.new.self.predicates) c.in_ok-symbol.ensures) in (
      subst (λ (x : List SymbolValue). AreMet x c.self.inside.functions.entries) (sym others) c.self.invariant.0,
      noted c.add_pred.new.self.predicates c.self.inside.predicates.entries c.note.new.met.entries c.args.item.now _ still c.in_ok-note.ensures.ok number,
    )
