-- The turns of a context with an entry more.
use Rattle.std.proofs.Common.{◌≡◌, ℕ, true, false, List, [], ◌∷◌, ◌++◌, append-nil, append_assoc, refl, sym, ap, ◌∙◌}
use Rattle.me_terms.specs.Values.{ProblemValue, EntryValue, ReasonValue, Asserted}
use Rattle.me_terms.specs.Context.{Context, add}
use Rattle.me_terms.specs.Next.{IsNext, Assert}
use Rattle.me_terms.specs.Grown.{left_of, right_of}
use Rattle.me_terms.specs.declared.bounds.Bounds.{Bounds}
use Rattle.me_terms.specs.declared.entry.Kind.{Kind}
use Rattle.me_terms.specs.declared.atom.Literal.{Literal}
use Rattle.branch_core.specs.Paths.{Turns}
use Rattle.branch_walk.specs.Jobs.{turn_of, turns_taken}
use Rattle.branch_walk.specs.Turning.{beside}

pub turns_append : (a b : Context) → turns_taken (a ++ b) ≡ turns_taken a ++ turns_taken b
turns_append [] b = refl
turns_append (e ∷ a) b = ap (λ (t : Turns). turn_of e.reason ++ t) (turns_append a b) ∙ sym (append_assoc (turn_of e.reason) (turns_taken a) (turns_taken b))

pub turns_add : (c : Context) (e : EntryValue) → turns_taken (add c e) ≡ turns_taken c ++ turn_of e.reason
turns_add c e = turns_append c (e ∷ []) ∙ ap (λ (t : Turns). turns_taken c ++ t) (append-nil (turn_of e.reason))

-- an entry that begins no left branch and no right one adds no turn
pub turns_by : (c : Context) (e : EntryValue) (why : ReasonValue) → e.reason ≡ why → turns_taken (add c e) ≡ turns_taken c ++ turn_of why
turns_by c e why is = turns_add c e ∙ ap (λ w. turns_taken c ++ turn_of w) is

pub asserted_reason : (problem : ProblemValue) (bounds : Bounds) (before : Context) (e : EntryValue) → IsNext problem bounds before (Assert e) → (c : ℕ) × (place : ℕ) × (tuple : List ℕ) × (e.reason ≡ Asserted c place tuple)
asserted_reason problem bounds before e next = (next.2.0, next.2.1, next.2.2, ap (λ (y : EntryValue). y.reason) next.2.3.entry)

pub turns_assert : (problem : ProblemValue) (bounds : Bounds) (before : Context) (e : EntryValue) → IsNext problem bounds before (Assert e) → turns_taken (add before e) ≡ turns_taken before
turns_assert problem bounds before e next =
    let why = asserted_reason problem bounds before e next in
    turns_by before e (Asserted why.0 why.1 why.2) why.3 ∙ append-nil (turns_taken before)

pub turns_beside : (before : Context) (e : EntryValue) → turns_taken (add before (beside e)) ≡ turns_taken before ++ true ∷ []
turns_beside before e = turns_add before (beside e)

pub turns_left : (c : Context) (l : Literal) (kind : Kind) → turns_taken (left_of c l kind) ≡ turns_taken c ++ false ∷ []
turns_left c l kind = turns_append c _

pub turns_right : (c : Context) (l : Literal) (kind : Kind) → turns_taken (right_of c l kind) ≡ turns_taken c ++ true ∷ []
turns_right c l kind = turns_append c _
