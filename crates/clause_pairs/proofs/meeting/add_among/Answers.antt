use Rattle.std.proofs.Common.{ap, ◌∙◌, arith}
use Rattle.std.specs.declared.vec.Vec.{Vec}
use Rattle.std.specs.declared.alloc.Global.{Global}
use Rattle.std.proofs.lemmas.List.{take_all}
use Rattle.std.proofs.lemmas.List.Elements.{Contains-get_or}
use Rattle.clause_pairs.specs.declared.clause_place.ClausePlace.{ClausePlace}
use Rattle.clause_pairs.specs.Meetings.{IsAgainst}
use Rattle.clause_pairs.proofs.Looked.{among_start, among_read, among_left, among_all}
use Rattle.clause_pairs.proofs.PairLists.{against_pair}
use Rattle.clause_pairs.proofs.meeting.add_among.Goals as goal
use Rattle.clause_pairs.proofs.meeting.add_among.Goals.{then-branch+in_ok-push, else-branch}

pub loop-at-init : goal.loop-at-init
loop-at-init c = among_start (λ q. IsAgainst c.args.problem.now c.args.entry.now q) c.args.listed.now c.args.places.items

pub literal_at-literal-requires : goal.literal_at-literal-requires
literal_at-literal-requires c = c.requires _ (Contains-get_or c.args.listed.now c.loop-at.at-index _ c.loop-at-test.true)

pub loop-at-preserved : goal.loop-at-preserved
loop-at-preserved c =
    let A : ClausePlace → Type 0 = λ q. IsAgainst c.args.problem.now c.args.entry.now q in
    let listed = c.args.listed.now in
    let n = c.loop-at.at-index in
    let now = c.loop-at.places.items in
    let l = c.literal_at-literal.result.now in
    elim c.if-branch.branch [
      | then-branch+in_ok-push w ↦
          let is = ap (λ (z : Vec ClausePlace Global). z.items) w.places-is ∙ w.in_ok-push.ensures.items in
          rw is (among_read A listed c.args.places.items n _ _ c.loop-at-test.true now (l, c.literal_at-literal.ensures, c.in_ok-is_pair.ensures.0 w.if-branch.true) c.loop-at.invariant)
      | else-branch w ↦
          rw w.places-is (among_left A listed c.args.places.items n _ c.loop-at-test.true now
          (λ g. let t = c.in_ok-is_pair.ensures.1 (against_pair c.args.problem.now c.args.entry.now _ l c.literal_at-literal.ensures g) in cc (t, w.if-branch.false)) c.loop-at.invariant)
    ]

pub returns : goal.returns
returns c =
    let listed = c.args.listed.now in
    let end = c.loop-at-test.false in
    among_all (λ q. IsAgainst c.args.problem.now c.args.entry.now q) listed c.args.places.items c.loop-at.places.items c.loop-at.at-index (take_all c.loop-at.at-index listed (omega (arith, end))) c.loop-at.invariant
