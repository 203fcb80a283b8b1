use Rattle.std.proofs.Common.{◌≡◌, ℕ, ◌+◌, ◌++◌, Some, length, take, ap, sym, ◌∙◌, arith}
use Rattle.std.specs.Prelude.{codes, decimal, slice_get}
use Rattle.std.proofs.lemmas.List.{length-take}
use Rattle.me_terms.specs.Values.{SignatureValue}
use Rattle.tptp_cnf.specs.Meaning.{word, symbol}
use Rattle.finite_domain.proofs.Apart.{relations_length}
use Rattle.finite_domain.proofs.Making.{relation_added}
use Rattle.finite_domain.proofs.symbols.add_relations.Goals as goal

pub add_pred-requires : goal.add_pred-requires
add_pred-requires c =
    let count = ap length c.functions.invariant.predicates in
    let few = c.requires.few in
    omega (arith, count, few, relations_length 0 (take c.functions.j c.args.signature.now.functions), length-take c.functions.j c.args.signature.now.functions)

pub functions-preserved : goal.functions-preserved
functions-preserved c =
    let few = c.requires.few in
    let j = c.functions.j in
    let at : slice_get c.args.signature.now.functions j ≡ Some c.in-Some.function.now = sym c.in-Some.ensures.item in
    record {
      functions = ap (λ (s : SignatureValue). s.functions) c.in_ok-add_pred.ensures.added ∙ c.functions.invariant.functions;
      predicates = relation_added c.functions.made c.add_pred.new.self c.in_ok-symbol.field-0 c.in-Some.function.now c.args.signature.now.functions j c.in_ok-add_pred.ensures.added
          (c.in_ok-symbol.ensures ∙ ap (λ (n : ℕ). symbol (word (codes "f" ++ decimal j)) (n + 1)) c.arity.ensures)
          c.functions.invariant.predicates at (omega arith);
    }
