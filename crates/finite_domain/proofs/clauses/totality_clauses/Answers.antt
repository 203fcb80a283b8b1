use Rattle.std.proofs.Common.{◌≡◌, ◌++◌, ◌∷◌, [], Some, ap, sym, ◌∙◌, arith}
use Rattle.std.specs.Prelude.{slice_get}
use Rattle.std.proofs.Common.{ℕ}
use Rattle.finite_domain.specs.Flat.{totality}
use Rattle.finite_domain.proofs.Making.{total_length, total_more}
use Rattle.finite_domain.proofs.clauses.totality_clauses.Goals as goal

pub push_clause-requires : goal.push_clause-requires
push_clause-requires c =
    let at : slice_get c.args.signature.now.functions c.functions.j ≡ Some c.in-Some.function.now = sym c.in-Some.ensures.item in
    let count = total_length c.args.n c.functions.j c.args.signature.now.functions c.in-Some.function.now c.functions.made.items c.functions.invariant at in
    omega (arith, count)

pub functions-preserved : goal.functions-preserved
functions-preserved c =
    let at : slice_get c.args.signature.now.functions c.functions.j ≡ Some c.in-Some.function.now = sym c.in-Some.ensures.item in
    total_more c.args.n c.functions.j c.args.signature.now.functions c.in-Some.function.now c.functions.made.items c.push_clause.new.clauses.items c.in_ok-literals.literals.items c.functions.invariant at
    (c.in_ok-literals.ensures ∙ ap (λ (m : ℕ). totality c.args.n c.functions.j m) c.arity.ensures) c.in_ok-push_clause.ensures
