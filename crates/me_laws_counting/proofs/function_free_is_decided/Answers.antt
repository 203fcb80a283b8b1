use Rattle.me_laws.proofs.Grown.{grown}
use Rattle.me_laws_counting.proofs.Repeats.{repeats_sharpen}
use Rattle.me_laws_counting.proofs.SmallContext.{grown_small}
use Rattle.me_laws_counting.proofs.Counted.{few_entries}
use Rattle.me_laws_counting.proofs.Decided.{no_bound, only_list}
use Rattle.me_laws_counting.proofs.function_free_is_decided.Goals as goal

pub returns : goal.returns
returns c = record {
  few_entries = λ problem bounds context valid free h. few_entries problem.signature context (grown h).0 (grown_small problem valid free h) (repeats_sharpen h);
  no_bound = λ problem bounds context b valid free roomy. no_bound problem bounds valid free roomy context b;
  only_list = λ problem bounds b valid free roomy. only_list problem bounds valid free roomy b;
}
