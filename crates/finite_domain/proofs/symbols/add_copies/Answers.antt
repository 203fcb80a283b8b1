use Rattle.std.proofs.Common.{◌≡◌, ℕ, List, ◌+◌, ◌++◌, ◌<◌, ◌^◌, eqb, length, map, take, get_or, refl, ap, subst, sym, ◌∙◌, arith}
use Rattle.std.specs.Prelude.{codes, decimal}
use Rattle.std.specs.List.{All, AllByRecursion, IsDistinct}
use Rattle.std.proofs.lemmas.List.{length-append, length-take}
use Rattle.me_terms.specs.Values.{SignatureValue}
use Rattle.tptp_cnf.specs.Meaning.{word, symbol}
use Rattle.finite_domain.specs.Flat.{relations_from, copy_of}
use Rattle.finite_domain.proofs.Apart.{relations_length}
use Rattle.finite_domain.proofs.Lists.{by_recursion, mapped_length, weaker}
use Rattle.finite_domain.proofs.Making.{copy_added}
use Rattle.finite_domain.proofs.symbols.add_copies.Goals as goal

pub add_pred-requires : goal.add_pred-requires
add_pred-requires c =
    let fs = c.args.signature.now.functions in
    let ps = c.args.signature.now.predicates in
    let items = c.as_slice-pred-items.result.now in
    let count = ap length c.predicates.invariant.predicates in
    let whole = ap length c.as_slice-pred-items.ensures.keys in
    let few = c.requires.few in
    let functions = c.requires.functions in
    omega (arith, count, whole, few, functions, length-append (relations_from 0 fs) (map (copy_of ps) (take c.predicates.pred-index items)), relations_length 0 fs, mapped_length (copy_of ps) (take c.predicates.pred-index items), length-take c.predicates.pred-index items)

pub predicates-preserved : goal.predicates-preserved
predicates-preserved c =
    let fs = c.args.signature.now.functions in
    let ps = c.args.signature.now.predicates in
    let items = c.as_slice-pred-items.result.now in
    let p = get_or items c.predicates.pred-index 0 in
    let same : items ≡ c.args.order.now.keys = c.as_slice-pred-items.ensures.keys in
    let distinct : IsDistinct eqb items = subst (IsDistinct eqb) (sym same) c.as_slice-pred-items.ensures.unique in
    let small : AllByRecursion (λ (q : ℕ). q < 2 ^ 31) items = subst (AllByRecursion (λ (q : ℕ). q < 2 ^ 31)) (sym same) (by_recursion (λ (q : ℕ). q < 2 ^ 31) c.args.order.now.keys c.requires.known) in
    record {
      functions = ap (λ (s : SignatureValue). s.functions) c.in_ok-add_pred.ensures.added ∙ c.predicates.invariant.functions;
      predicates = copy_added c.predicates.made c.add_pred.new.self c.in_ok-symbol.field-0 fs ps items c.predicates.pred-index p c.in_ok-add_pred.ensures.added
          (c.in_ok-symbol.ensures ∙ ap (λ (n : ℕ). symbol (word (codes "q" ++ decimal p)) n) c.arity_of.ensures)
          c.predicates.invariant.predicates c.predicates-test.true refl distinct
          (weaker (λ (q : ℕ). q < 2 ^ 31) (λ (q : ℕ). q < 2 ^ 64) items (λ q less. omega (arith, less)) small);
    }
