use Rattle.std.proofs.Common.{◌≡◌, ◌++◌, List, ℕ, Bool, refl, subst, ap, inl}
use Rattle.std.proofs.lemmas.Bool.{false≢true}
use Rattle.me_terms.specs.Values.{EntryValue}
use Rattle.me_terms.specs.AnswerViews.{next_value}
use Rattle.me_terms.specs.declared.answer.Next.{Next}
use Rattle.next_rule.specs.NextLaws.{IsAddedBy, MayBeAdded}
use Rattle.darwin_steps.proofs.Walking.{assert_grown, split_grown, told_assert, told_bounded, told_close, told_exhausted, told_split}
use Rattle.darwin_steps.proofs.Results.{told_of}
use Rattle.darwin_steps.specs.Told.{IsFollowed, IsLeft}
use Rattle.darwin_steps.proofs.walk.follow.Goals as goal

pub add-requires-clause-literal : goal.add-requires-clause-literal
add-requires-clause-literal c =
    let P : Next → Type 0 = λ x. (e : EntryValue) → IsAddedBy (next_value x) e → MayBeAdded c.args.search.now.bounds.now c.args.context.now e in
    (subst P c.in-Assert.is c.requires.added c.in-Assert.entry refl).literal

pub add-requires-clause-apart : goal.add-requires-clause-apart
add-requires-clause-apart c =
    let P : Next → Type 0 = λ x. (e : EntryValue) → IsAddedBy (next_value x) e → MayBeAdded c.args.search.now.bounds.now c.args.context.now e in
    (subst P c.in-Assert.is c.requires.added c.in-Assert.entry refl).apart

pub add-requires-in-Split-clause-literal : goal.add-requires-in-Split-clause-literal
add-requires-in-Split-clause-literal c =
    let P : Next → Type 0 = λ x. (e : EntryValue) → IsAddedBy (next_value x) e → MayBeAdded c.args.search.now.bounds.now c.args.context.now e in
    (subst P c.in-Split.is c.requires.added c.left_entry.result (inl c.left_entry.ensures)).literal

pub add-requires-in-Split-clause-apart : goal.add-requires-in-Split-clause-apart
add-requires-in-Split-clause-apart c =
    let P : Next → Type 0 = λ x. (e : EntryValue) → IsAddedBy (next_value x) e → MayBeAdded c.args.search.now.bounds.now c.args.context.now e in
    (subst P c.in-Split.is c.requires.added c.left_entry.result (inl c.left_entry.ensures)).apart

pub returns-in-Assert-clause-grown : goal.returns-in-Assert-clause-grown
returns-in-Assert-clause-grown c =
    let s = c.args.search.now in
    let h = c.in_ok-add-in-Assert.ensures in
    λ _. assert_grown s.problem.now s.bounds.now c.args.context.now _ c.in-Assert.entry _ c.requires.grown c.requires.next (ap next_value c.in-Assert.is) h.1.now_is

pub returns-in-Assert-clause-told : goal.returns-in-Assert-clause-told
returns-in-Assert-clause-told c =
    told_assert c.args.search.now.problem.now c.args.context.now _ c.in-Assert.entry _ c.args.out.now.items _ (ap next_value c.in-Assert.is) c.in_ok-add-in-Assert.ensures

pub returns-in-Split-clause-grown : goal.returns-in-Split-clause-grown
returns-in-Split-clause-grown c =
    let s = c.args.search.now in
    let h = c.in_ok-add-in-Split.ensures in
    λ _. split_grown s.problem.now s.bounds.now c.args.context.now _ c.in-Split.literal c.in-Split.kind _ _ c.requires.grown c.requires.next (ap next_value c.in-Split.is) c.left_entry.ensures h.1.now_is

pub returns-in-Split-clause-told : goal.returns-in-Split-clause-told
returns-in-Split-clause-told c =
    told_split c.args.search.now.problem.now c.args.context.now _ c.in-Split.literal c.in-Split.kind _ _ c.args.out.now.items _ (ap next_value c.in-Split.is) c.left_entry.ensures c.in_ok-add-in-Split.ensures

pub returns-in-Exhausted-clause-grown : goal.returns-in-Exhausted-clause-grown
returns-in-Exhausted-clause-grown c = λ on. absurd (false≢true on)

pub returns-in-Exhausted-clause-told : goal.returns-in-Exhausted-clause-told
returns-in-Exhausted-clause-told c =
    told_exhausted c.args.search.now.problem.now c.args.context.now _ c.args.out.now.items _ (ap next_value c.in-Exhausted.is) c.in_ok-push_key-in-Exhausted.ensures

pub returns-in-Close-clause-told : goal.returns-in-Close-clause-told
returns-in-Close-clause-told c =
    let problem = c.args.search.now.problem.now in
    let old = c.args.context.now in
    let new = c.leave.new.context in
    let out = c.args.out.now.items in
    let end = c.leave.new.out.items in
    let P : Bool → Type 0 = λ b. (text : List ℕ) × IsLeft problem old b new text × (end ≡ out ++ text) in
    let Q : Bool → Type 0 = λ b. (text : List ℕ) × IsFollowed problem old (next_value c.args.next) b new text × (end ≡ out ++ text) in
    told_of c.leave.result P Q (λ b h. told_close problem old new c.in-Close.clause c.in-Close.tuple.items _ b out end (ap next_value c.in-Close.is) h) c.leave.ensures.told

pub returns-clause-told : goal.returns-clause-told
returns-clause-told c =
    let problem = c.args.search.now.problem.now in
    let old = c.args.context.now in
    let new = c.leave-in-Bounded.new.context in
    let out = c.args.out.now.items in
    let end = c.leave-in-Bounded.new.out.items in
    let P : Bool → Type 0 = λ b. (text : List ℕ) × IsLeft problem old b new text × (end ≡ out ++ text) in
    let Q : Bool → Type 0 = λ b. (text : List ℕ) × IsFollowed problem old (next_value c.args.next) b new text × (end ≡ out ++ text) in
    told_of c.leave-in-Bounded.result P Q (λ b h. told_bounded problem old new c.in-Bounded.bound _ b out end (ap next_value c.in-Bounded.is) h) c.leave-in-Bounded.ensures.told
