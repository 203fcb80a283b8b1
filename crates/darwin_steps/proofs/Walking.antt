-- The steps of a walk, and what is told of them.
use Rattle.std.proofs.Common.{◌≡◌, ◌≤◌, ◌+◌, ℕ, Bool, true, false, List, [], ◌∷◌, ◌++◌, length, slice_get, Some, refl, sym, subst, ap, ◌∙◌, append_assoc, arith}
use Rattle.me_terms.specs.Values.{ProblemValue, SignatureValue, EntryValue, SplitLeft}
use Rattle.me_terms.specs.Context.{Context, add}
use Rattle.me_terms.specs.Grown.{IsGrown, asserted, split_entry, went_left}
use Rattle.me_terms.specs.Next.{NextValue, Close, Assert, Split, Exhausted, Bounded, IsNext}
use Rattle.me_terms.specs.declared.bounds.Bound.{Bound}
use Rattle.me_terms.specs.declared.bounds.Bounds.{Bounds}
use Rattle.me_terms.specs.declared.entry.Kind.{Kind}
use Rattle.me_terms.specs.declared.atom.Literal.{Literal}
use Rattle.branch_walk.specs.Turning.{EndsLeft, IsAllBack, IsBackAtLeft, beside}
use Rattle.branch_walk.proofs.Ends.{longer, stands_last}
use Rattle.branch_walk.proofs.Reasons.{left_grown, turns}
use Rattle.darwin_steps.specs.StepText.{key_text, right_text, step_text}
use Rattle.darwin_steps.specs.Told.{IsAdded, IsDone, IsFollowed, IsLeft, IsTold, IsTurned}

same_some : (e f : EntryValue) → Some e ≡ Some f → e ≡ f
same_some e f h = cc h

-- the line of the last entry's turn
pub turned_line : (signature : SignatureValue) (context : Context) (k : ℕ) (e : EntryValue) (old new : List ℕ) → slice_get context k ≡ Some e → k + 1 ≡ length context → new ≡ old ++ right_text signature k e → (before : Context) (last : EntryValue) → context ≡ add before last → new ≡ old ++ right_text signature (length before) last
turned_line signature context k e old new at count told before last is =
    let many = ap length is in
    let more = longer before last in
    let place : k ≡ length before = omega (arith, many, more, count) in
    let G : Context × ℕ → Type 0 = λ z. slice_get z.0 z.1 ≡ Some e in
    let there : slice_get (add before last) (length before) ≡ Some e = subst G (λ i. (is i, place i)) at in
    let same = same_some e last (sym there ∙ stands_last before last) in
    told ∙ (λ i. old ++ right_text signature (place i) (same i))

pub back_grown : (problem : ProblemValue) (bounds : Bounds) (old now : Context) → IsGrown problem bounds old → IsBackAtLeft 1 old now → IsGrown problem bounds now
back_grown problem bounds old now h b =
    let G : Context → Type 0 = λ x. IsGrown problem bounds x in
    subst G (sym b.now_is) (left_grown problem bounds old b.before b.later b.left h b.was b.above b.is_left)

pub back_left : (old now : Context) → IsBackAtLeft 1 old now → EndsLeft now
back_left old now b = record { before = b.before; left = b.left; some = b.above; is = b.now_is; is_left = b.is_left }

-- where the context stands after the turn
pub turned_context : (old now new : Context) → (b : IsBackAtLeft 1 old now) → ((before : Context) (left : EntryValue) → now ≡ add before left → new ≡ add before (beside left)) → new ≡ add b.before (beside b.left)
turned_context old now new b turned = turned b.before b.left b.now_is

pub turned_grown : (problem : ProblemValue) (bounds : Bounds) (old now new : Context) → IsGrown problem bounds old → (b : IsBackAtLeft 1 old now) → new ≡ add b.before (beside b.left) → IsGrown problem bounds new
turned_grown problem bounds old now new h b is =
    let G : Context → Type 0 = λ x. IsGrown problem bounds x in
    subst G (sym is) (turns problem bounds old b.before b.later b.left h b.was b.above b.is_left).turned

pub turned_some : (old now new : Context) → (b : IsBackAtLeft 1 old now) → new ≡ add b.before (beside b.left) → 1 ≤ length new
turned_some old now new b is =
    let many = ap length is in
    let more = longer b.before (beside b.left) in
    omega (arith, many, more)

pub told_turned : (problem : ProblemValue) (old now new : Context) (out key end : List ℕ) → (b : IsBackAtLeft 1 old now) → new ≡ add b.before (beside b.left) → key ≡ out ++ key_text old → end ≡ key ++ right_text problem.signature (length b.before) (beside b.left) → (text : List ℕ) × IsLeft problem old true new text × (end ≡ out ++ text)
told_turned problem old now new out key end b is first later =
    let right = right_text problem.signature (length b.before) (beside b.left) in
    let turned : IsTurned problem old new (key_text old ++ right) = record { left = now; back = b; now_is = is; text_is = refl } in
    (key_text old ++ right, turned, later ∙ (ap (λ (x : List ℕ). x ++ right) first ∙ append_assoc out (key_text old) right))

pub told_done : (problem : ProblemValue) (old now : Context) (out end : List ℕ) → IsAllBack 1 old now → end ≡ out ++ key_text old → (text : List ℕ) × IsLeft problem old false now text × (end ≡ out ++ text)
told_done problem old now out end b first =
    let done : IsDone old now (key_text old) = record { back = b; text_is = refl } in
    (key_text old, done, first)

-- the line of a step and what is told behind it
pub told_step : (problem : ProblemValue) (bounds : Bounds) (old new : Context) (next : NextValue) (count : ℕ) (out line end : List ℕ) (goes_on : Bool) → IsNext problem bounds old next → count ≡ length old → line ≡ out ++ step_text problem count next → (text : List ℕ) × IsFollowed problem old next goes_on new text × (end ≡ line ++ text) → (text : List ℕ) × IsTold problem bounds old goes_on new text × (end ≡ out ++ text)
told_step problem bounds old new next count out line end goes_on is_next number first later =
    let step = step_text problem (length old) next in
    let line_is : line ≡ out ++ step = first ∙ ap (λ (n : ℕ). out ++ step_text problem n next) number in
    let told : IsTold problem bounds old goes_on new (step ++ later.0) = record { next = next; later = later.0; is_next = is_next; followed = later.1; text_is = refl } in
    (step ++ later.0, told, later.2 ∙ (ap (λ (x : List ℕ). x ++ later.0) line_is ∙ append_assoc out step later.0))

-- ---- what is told behind the line of each kind of step
pub told_assert : (problem : ProblemValue) (old new : Context) (e : EntryValue) (next : NextValue) (out end : List ℕ) → next ≡ Assert e → (text : List ℕ) × IsAdded old e new text × (end ≡ out ++ text) → (text : List ℕ) × IsFollowed problem old next true new text × (end ≡ out ++ text)
told_assert problem old new e next out end is h =
    let F : NextValue → Type 0 = λ x. IsFollowed problem old x true new h.0 in
    (h.0, subst F (sym is) (refl, h.1), h.2)

pub told_split : (problem : ProblemValue) (old new : Context) (l : Literal) (kind : Kind) (e : EntryValue) (next : NextValue) (out end : List ℕ) → next ≡ Split l kind → e ≡ split_entry l kind SplitLeft → (text : List ℕ) × IsAdded old e new text × (end ≡ out ++ text) → (text : List ℕ) × IsFollowed problem old next true new text × (end ≡ out ++ text)
told_split problem old new l kind e next out end is entry_is h =
    let F : NextValue → Type 0 = λ x. IsFollowed problem old x true new h.0 in
    let A : EntryValue → Type 0 = λ x. IsAdded old x new h.0 in
    (h.0, subst F (sym is) (refl, subst A entry_is h.1), h.2)

pub told_exhausted : (problem : ProblemValue) (old : Context) (next : NextValue) (out end : List ℕ) → next ≡ Exhausted → end ≡ out ++ key_text old → (text : List ℕ) × IsFollowed problem old next false old text × (end ≡ out ++ text)
told_exhausted problem old next out end is first =
    let F : NextValue → Type 0 = λ x. IsFollowed problem old x false old (key_text old) in
    (key_text old, subst F (sym is) (refl, refl), first)

pub told_close : (problem : ProblemValue) (old new : Context) (clause : ℕ) (tuple : List ℕ) (next : NextValue) (goes_on : Bool) (out end : List ℕ) → next ≡ Close clause tuple → (text : List ℕ) × IsLeft problem old goes_on new text × (end ≡ out ++ text) → (text : List ℕ) × IsFollowed problem old next goes_on new text × (end ≡ out ++ text)
told_close problem old new clause tuple next goes_on out end is h =
    let F : NextValue → Type 0 = λ x. IsFollowed problem old x goes_on new h.0 in
    (h.0, subst F (sym is) h.1, h.2)

pub told_bounded : (problem : ProblemValue) (old new : Context) (bound : Bound) (next : NextValue) (goes_on : Bool) (out end : List ℕ) → next ≡ Bounded bound → (text : List ℕ) × IsLeft problem old goes_on new text × (end ≡ out ++ text) → (text : List ℕ) × IsFollowed problem old next goes_on new text × (end ≡ out ++ text)
told_bounded problem old new bound next goes_on out end is h =
    let F : NextValue → Type 0 = λ x. IsFollowed problem old x goes_on new h.0 in
    (h.0, subst F (sym is) h.1, h.2)

-- the context that a step grows is one to which the rules lead
pub assert_grown : (problem : ProblemValue) (bounds : Bounds) (old new : Context) (e : EntryValue) (next : NextValue) → IsGrown problem bounds old → IsNext problem bounds old next → next ≡ Assert e → new ≡ add old e → IsGrown problem bounds new
assert_grown problem bounds old new e next h is_next is now_is =
    let G : Context → Type 0 = λ x. IsGrown problem bounds x in
    let N : NextValue → Type 0 = λ x. IsNext problem bounds old x in
    subst G (sym now_is) (asserted h (subst N is is_next))

pub split_grown : (problem : ProblemValue) (bounds : Bounds) (old new : Context) (l : Literal) (kind : Kind) (e : EntryValue) (next : NextValue) → IsGrown problem bounds old → IsNext problem bounds old next → next ≡ Split l kind → e ≡ split_entry l kind SplitLeft → new ≡ add old e → IsGrown problem bounds new
split_grown problem bounds old new l kind e next h is_next is entry_is now_is =
    let G : Context → Type 0 = λ x. IsGrown problem bounds x in
    let N : NextValue → Type 0 = λ x. IsNext problem bounds old x in
    subst G (sym (now_is ∙ ap (λ (x : EntryValue). add old x) entry_is)) (went_left h (subst N is is_next))
