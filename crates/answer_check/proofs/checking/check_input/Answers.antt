use Rattle.std.proofs.Common.{◌≡◌, length, refl, ap, arith}
use Rattle.me_io.specs.declared.source.TheConstants.{MAX_BYTES}
use Rattle.answer_check.proofs.Marking.{parts_within}
use Rattle.answer_check.proofs.checking.check_input.Goals as goal

pub read_problem-requires : goal.read_problem-requires
read_problem-requires c = omega (arith, parts_within c.args.input.now, ap length c.part.ensures.problem, c.requires)

pub check_answer-requires-clause-few : goal.check_answer-requires-clause-few
check_answer-requires-clause-few c =
    let most : MAX_BYTES ≡ 67108864 = refl in
    omega (arith, parts_within c.args.input.now, ap length c.part.ensures.problem, ap length c.part.ensures.answer, c.requires, c.in-Ok.ensures.functions, c.in-Ok.ensures.predicates, most)
