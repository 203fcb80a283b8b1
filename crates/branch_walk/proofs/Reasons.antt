-- What the reasons of a grown context's entries tell a walk that goes back.
use Rattle.std.proofs.Common.{◌≡◌, ◌≤◌, ◌∷◌, ◌++◌, length, [], sym, subst, ap, ◌∙◌, arith}
use Rattle.me_terms.specs.Measures.{complement}
use Rattle.me_terms.specs.Values.{ProblemValue, EntryValue, ReasonValue, Pseudo, Asserted, SplitLeft, SplitRight}
use Rattle.me_terms.specs.Context.{Context, IsLiteralEntry, add}
use Rattle.me_terms.specs.Contradictory.{Contradicts}
use Rattle.me_terms.specs.Next.{Split, IsNext, HasRoom}
use Rattle.me_terms.specs.Grown.{IsGrown, split_entry, went_left, went_right}
use Rattle.me_terms.specs.declared.bounds.Bounds.{Bounds}
use Rattle.me_terms.specs.declared.entry.Kind.{Kind}
use Rattle.me_terms.specs.declared.atom.Literal.{Literal}
use Rattle.me_terms.specs.declared.atom.Pattern.TheVariants.{Of}
use Rattle.me_laws.specs.GrownLaws.{ReasonHolds}
use Rattle.me_laws.proofs.Grown.{grown}
use Rattle.me_laws.proofs.NoContradiction.{split_apart}
use Rattle.me_laws.proofs.Reasons.{reasons_hold}
use Rattle.branch_walk.specs.Turning.{beside, EndsLeft}
use Rattle.branch_walk.proofs.Ends.{same_before, stands_last}

-- ---- what stands before an entry
grown_by : (problem : ProblemValue) (bounds : Bounds) (before : Context) (e : EntryValue) (why : ReasonValue) → 1 ≤ length before → ReasonHolds problem bounds before e why → IsGrown problem bounds before
grown_by problem bounds before e Pseudo some h = let none = ap length h.0 in absurd (omega (arith, some, none))
grown_by problem bounds before e (Asserted c place tuple) some h = h.0
grown_by problem bounds before e SplitLeft some h = h.0
grown_by problem bounds before e SplitRight some h = h.0

pub grown_before : (problem : ProblemValue) (bounds : Bounds) (context before later : Context) (e : EntryValue) → IsGrown problem bounds context → context ≡ before ++ e ∷ later → 1 ≤ length before → IsGrown problem bounds before
grown_before problem bounds context before later e h is some =
    grown_by problem bounds before e e.reason some (reasons_hold h before later e is)

-- ---- what the right branch beside a left one gets
pub record MayGoRight (problem : ProblemValue) (bounds : Bounds) (before : Context) (left : EntryValue) : Type 0 where
  pub l : Literal
  pub kind : Kind
  pub next : IsNext problem bounds before (Split l kind)
  pub split : left ≡ split_entry l kind SplitLeft

pub may_go_right : (problem : ProblemValue) (bounds : Bounds) (context before later : Context) (left : EntryValue) → IsGrown problem bounds context → context ≡ before ++ left ∷ later → left.reason ≡ SplitLeft → MayGoRight problem bounds before left
may_go_right problem bounds context before later left h is is_left =
    let P : ReasonValue → Type 0 = λ why. ReasonHolds problem bounds before left why in
    let holds = subst P is_left (reasons_hold h before later left is) in
    record { l = holds.1.0; kind = holds.1.1; next = holds.1.2; split = holds.1.3 }

pub record CanGrow (bounds : Bounds) (context : Context) (e : EntryValue) : Type 0 where
  pub literal : IsLiteralEntry e
  pub apart : ¬ Contradicts context e.positive e.kind e.atom
  pub room : HasRoom bounds context

pub right_can_grow : (problem : ProblemValue) (bounds : Bounds) (before : Context) (left : EntryValue) → 1 ≤ length before → IsGrown problem bounds before → MayGoRight problem bounds before left → CanGrow bounds before (beside left)
right_can_grow problem bounds before left some h may =
    let l = may.l in
    let kind = may.kind in
    let next = may.next in
    let context_is = (grown (went_right h next)).0 in
    let right = split_entry (complement l) kind SplitRight in
    let least = next.3 in
    let apart = split_apart problem bounds before least.0 least.3 least.1 least.2 l (grown h).0 least.4 in
    let P : Kind → Type 0 = λ x. ¬ Contradicts before (complement l).positive x (Of l.atom) in
    let at : CanGrow bounds before right = record {
      literal = context_is.later (length before) right (omega (arith, some)) (stands_last before right);
      apart = subst P (sym next.4) apart.1;
      room = next.2;
    } in
    let same : right ≡ beside left = ap beside (sym may.split) in
    let Q : EntryValue → Type 0 = λ x. CanGrow bounds before x in
    subst Q same at

-- the right branch beside the last entry, which begins a left branch
pub record Turns (problem : ProblemValue) (bounds : Bounds) (before : Context) (left : EntryValue) : Type 0 where
  pub grown : IsGrown problem bounds before
  pub may : MayGoRight problem bounds before left
  pub can : CanGrow bounds before (beside left)
  pub turned : IsGrown problem bounds (add before (beside left))

pub turns : (problem : ProblemValue) (bounds : Bounds) (context before later : Context) (left : EntryValue) → IsGrown problem bounds context → context ≡ before ++ left ∷ later → 1 ≤ length before → left.reason ≡ SplitLeft → Turns problem bounds before left
turns problem bounds context before later left h is some is_left =
    let grown = grown_before problem bounds context before later left h is some in
    let may = may_go_right problem bounds context before later left h is is_left in
    let P : EntryValue → Type 0 = λ e. IsGrown problem bounds (add before (beside e)) in
    record {
      grown = grown;
      may = may;
      can = right_can_grow problem bounds before left some grown may;
      turned = subst P (sym may.split) (went_right grown may.next);
    }

-- what the right branch beside the last entry gets may be added once that is taken off
pub can_turn : (problem : ProblemValue) (bounds : Bounds) (context new : Context) (entry : EntryValue) → IsGrown problem bounds context → (s : EndsLeft context) → (e : EntryValue) × (context ≡ add new e) → ((before : Context) (last : EntryValue) → context ≡ add before last → entry ≡ beside last) → CanGrow bounds new entry
can_turn problem bounds context new entry h s off test =
    let can = (turns problem bounds context s.before [] s.left h s.is s.some s.is_left).can in
    let first = same_before s.before new s.left off.0 (sym s.is ∙ off.1) in
    let is = test s.before s.left s.is in
    let P : Context × EntryValue → Type 0 = λ z. CanGrow bounds z.0 z.1 in
    subst P (λ i. (first i, sym is i)) can

-- the context after the turn
pub has_turned : (context new end : Context) (entry : EntryValue) → (e : EntryValue) × (context ≡ add new e) → ((before : Context) (last : EntryValue) → context ≡ add before last → entry ≡ beside last) → end ≡ add new entry → (before : Context) (left : EntryValue) → context ≡ add before left → end ≡ add before (beside left)
has_turned context new end entry off test grew before left is =
    let first = same_before new before off.0 left (sym off.1 ∙ is) in
    let entry_is = test before left is in
    grew ∙ (λ i. add (first i) (entry_is i))

-- the left branch itself is grown
pub left_grown : (problem : ProblemValue) (bounds : Bounds) (context before later : Context) (left : EntryValue) → IsGrown problem bounds context → context ≡ before ++ left ∷ later → 1 ≤ length before → left.reason ≡ SplitLeft → IsGrown problem bounds (add before left)
left_grown problem bounds context before later left h is some is_left =
    let t = turns problem bounds context before later left h is some is_left in
    let P : EntryValue → Type 0 = λ e. IsGrown problem bounds (add before e) in
    subst P (sym t.may.split) (went_left t.grown t.may.next)
