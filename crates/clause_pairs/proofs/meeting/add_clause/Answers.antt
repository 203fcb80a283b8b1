use Rattle.std.proofs.Common.{◌≡◌, List, [], ◌∷◌, ◌++◌, length, slice_get, Some, refl, subst, ap, ◌∙◌, arith}
use Rattle.std.proofs.lemmas.Option.{slice_get_read}
use Rattle.me_terms.specs.Values.{ClauseValue}
use Rattle.me_terms.specs.declared.atom.Literal.{Literal}
use Rattle.me_laws_increments.specs.Pairs.{IsPair}
use Rattle.clause_pairs.specs.declared.clause_place.ClausePlace.{ClausePlace}
use Rattle.clause_pairs.specs.Meetings.{AddsPlaces, AgainstClause}
use Rattle.clause_pairs.proofs.Against.{first_more, first_past, first_all}
use Rattle.clause_pairs.proofs.meeting.add_clause.Goals as goal
use Rattle.clause_pairs.proofs.meeting.add_clause.Goals.{then-branch+in_ok-push, else-branch}

pub loop-i-preserved : goal.loop-i-preserved
loop-i-preserved c =
    let R : Literal → Type 0 = λ m. IsPair c.args.entry.now m in
    let ls = c.as_slice-literals.result.now in
    let l = c.index-literals-i.result in
    let at : slice_get ls c.loop-i.i ≡ Some l = slice_get_read ls (length ls) c.loop-i.i l refl c.loop-i-test.true c.index-literals-i.is in
    elim c.if-branch.branch [
      | then-branch+in_ok-push w ↦
          let new : ClausePlace = record { clause = c.args.c; place = c.loop-i.i } in
          let is : c.if-branch.places.items ≡ c.loop-i.places.items ++ new ∷ [] = cc (w.in_ok-push.ensures.items, w.places-is) in
          rw is (first_more R ls c.args.c c.args.places.items c.loop-i.places.items c.loop-i.i l at (c.in_ok-is_pair.ensures.0 w.if-branch.true) c.loop-i.invariant)
      | else-branch w ↦
          rw w.places-is (first_past R ls c.args.c c.args.places.items c.loop-i.places.items c.loop-i.i l at (λ h. let t = c.in_ok-is_pair.ensures.1 h in cc (t, w.if-branch.false)) c.loop-i.invariant)
    ]

pub returns : goal.returns
returns c =
    let ls = c.as_slice-literals.result.now in
    let same : ls ≡ c.args.clause.now.literals = c.as_slice-literals.ensures ∙ ap (λ (z : ClauseValue). z.literals) c.clause.view_is in
    let end : c.loop-i.i ≡ length ls = omega (arith, c.loop-i.auto.i-end, c.loop-i-test.false) in
    let P : List Literal → Type 0 = λ z. AddsPlaces c.args.places.items c.loop-i.places.items (AgainstClause c.args.entry.now z c.args.c) in
    subst P same (first_all (λ m. IsPair c.args.entry.now m) ls c.args.c c.args.places.items c.loop-i.places.items c.loop-i.i end c.loop-i.invariant)
