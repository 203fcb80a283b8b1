use Rattle.candidate_store.proofs.Unpaired.{empty_list}
use Rattle.candidate_store.proofs.search.are_paired.Goals as goal

pub returns-then-is_bare : goal.returns-then-is_bare
returns-then-is_bare c =
    λ h. (c.loop-i.i, c.if-i-skip.false, empty_list c.args.lists.now c.loop-i.i c.index-lists-i.result c.loop-i-test.true c.index-lists-i.is (c.is_bare.ensures.0 c.if-is_bare.true))
