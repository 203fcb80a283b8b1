use Rattle.std.proofs.Common.{◌≡◌, ◌-◌, length, slice_get, Some, sym, arith}
use Rattle.std.proofs.lemmas.Option.{slice_get_within}
use Rattle.clause_pairs.proofs.Numbers.{ends_some}
use Rattle.clause_pairs.proofs.lists.ends_with.Goals as goal

pub returns-in-Some : goal.returns-in-Some
returns-in-Some c =
    let list = c.args.list.now in
    let at : slice_get list (length list - 1) ≡ Some c.in-Some.last.now = sym c.in-Some.ensures.value in
    let lt = slice_get_within list (length list - 1) c.in-Some.last.now at in
    sym (ends_some c.args.k c.in-Some.last.now list (length list - 1) (omega (arith, lt)) at)
