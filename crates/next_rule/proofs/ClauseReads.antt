-- The clauses of a problem, as a loop over them reads them.
use Rattle.std.proofs.Common.{◌≡◌, ℕ, ◌<◌, List, length, get_or, slice_get, Some, refl, subst, ap, ◌∙◌}
use Rattle.std.proofs.lemmas.Option.{slice_get_read}
use Rattle.me_terms.specs.Values.{ProblemValue, ClauseValue}
use Rattle.me_terms.specs.Positions.{ClauseAt}

pub clause_read : (problem written : ProblemValue) (items : List ClauseValue) (c : ℕ) (clause : ClauseValue) → items ≡ written.clauses → written ≡ problem → c < length items → clause ≡ get_or items c clause → ClauseAt problem c clause
clause_read problem written items c clause same is lt read =
    let P : List ClauseValue → Type 0 = λ z. slice_get z c ≡ Some clause in
    subst P (same ∙ ap (λ (z : ProblemValue). z.clauses) is) (slice_get_read items (length items) c clause refl lt read)

-- the loop has gone over all clauses
pub all_read : (problem written : ProblemValue) (items : List ClauseValue) (c : ℕ) → items ≡ written.clauses → written ≡ problem → c ≡ length items → c ≡ length problem.clauses
all_read problem written items c same is all = all ∙ ap length (same ∙ ap (λ (z : ProblemValue). z.clauses) is)
