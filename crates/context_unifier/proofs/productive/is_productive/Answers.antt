use Rattle.std.proofs.Common.{◌≡◌, ℕ, ◌≤◌, List, length, slice_get, Some, refl, sym, ap, ◌∙◌, subst, inl, inr, arith}
use Rattle.std.proofs.lemmas.Bool.{cases_lt, false≢true}
use Rattle.std.proofs.lemmas.Option.{same_Some, slice_get_within}
use Rattle.me_terms.specs.Values.{ClauseValue, EntryValue}
use Rattle.me_terms.specs.Measures.{complement}
use Rattle.me_terms.specs.Unifier.{unified}
use Rattle.me_terms.specs.Produces.{Produces}
use Rattle.me_terms.specs.declared.atom.Literal.{Literal}
use Rattle.context_unifier.proofs.Produced.{used_at, productive_by, by_productive, literal_at}
use Rattle.context_unifier.proofs.productive.is_productive.Goals as goal

pub returns-then-not-branch : goal.returns-then-not-branch
returns-then-not-branch g c f unifier =
    let context = g.V.View.context c.args.view.now in
    let literals = c.args.clause.now.literals in
    let tuple = c.args.u.now.tuple in
    let place = c.loop-place.place in
    let k = c.in-Some.k.now in
    let at : slice_get tuple place ≡ Some k = ap (λ (xs : List ℕ). slice_get xs place) (sym c.tuple.ensures.positions) ∙ sym c.in-Some.ensures.item in
    let same : length c.clause.inside.literals.items ≡ length literals = ap (λ (x : ClauseValue). length x.literals) c.clause.view_is in
    let there = literal_at literals place (omega (arith, same, c.len-place-end.ensures, c.loop-place-test.true)) in
    let used = used_at context literals tuple f c.requires.opposite unifier place k there.0 there.1 at in
    let own : slice_get c.args.u.now.literals place ≡ Some there.0 = ap (λ (xs : List Literal). slice_get xs place) c.requires.unifier.literals ∙ there.1 in
    let both = c.in_ok-is_productive_at.ensures f there.0 used.0 ((c.requires.unifier.families f).1 unifier) own used.1 in (
      λ h. absurd (false≢true h),
      λ productive. let yes = both.1 (by_productive context literals tuple f productive place k there.0 used.0 there.1 at used.1.visible.0) in cc (yes, c.if-not-branch.true),
    )

pub loop-place-preserved : goal.loop-place-preserved
loop-place-preserved g c f unifier i k m e l literal at stands =
    let context = g.V.View.context c.args.view.now in
    let literals = c.args.clause.now.literals in
    let tuple = c.args.u.now.tuple in
    let place = c.loop-place.place in
    let position = c.in-Some.k.now in
    let P : Type 0 = Produces context k e (complement (unified f m)) in
    let here : place ≤ i → P = λ h.
    let same : i ≡ place = omega arith in
    let there : slice_get tuple place ≡ Some position = ap (λ (xs : List ℕ). slice_get xs place) (sym c.tuple.ensures.positions) ∙ sym c.in-Some.ensures.item in
    let first : slice_get tuple place ≡ Some k = subst (λ (n : ℕ). slice_get tuple n ≡ Some k) same at in
    let stood : slice_get literals place ≡ Some m = subst (λ (n : ℕ). slice_get literals n ≡ Some m) same literal in
    let equal : position ≡ k = same_Some position k (sym there ∙ first) in
    let used = used_at context literals tuple f c.requires.opposite unifier place position m stood there in
    let own : slice_get c.args.u.now.literals place ≡ Some m = ap (λ (xs : List Literal). slice_get xs place) c.requires.unifier.literals ∙ stood in
    let both = c.in_ok-is_productive_at.ensures f m used.0 ((c.requires.unifier.families f).1 unifier) own used.1 in
    let Q : ℕ → EntryValue → Type 0 = λ n x. Produces context n x (complement (unified f m)) in
    let entry : used.0 ≡ e = same_Some used.0 e (sym (subst (λ (n : ℕ). slice_get context n ≡ Some used.0) equal used.1.visible.0) ∙ stands) in
    subst (λ (x : EntryValue). Q k x) entry (subst (λ (n : ℕ). Q n used.0) equal (both.0 c.if-not-branch.false)) in
    elim (cases_lt i place) as (λ _. P) [ inl h ↦ c.loop-place.invariant f unifier i k m e h literal at stands | inr h ↦ here h ]

pub returns : goal.returns
returns g c f unifier =
    let context = g.V.View.context c.args.view.now in
    let literals = c.args.clause.now.literals in
    let same : length c.clause.inside.literals.items ≡ length literals = ap (λ (x : ClauseValue). length x.literals) c.clause.view_is in
    (λ h. productive_by context literals c.args.u.now.tuple f (λ i k l e literal at stands. let within = slice_get_within literals i l literal in c.loop-place.invariant f unifier i k l e (omega (arith, same, within, c.len-place-end.ensures, c.loop-place-test.false)) literal at stands), λ p. refl)
