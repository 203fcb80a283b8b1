use Rattle.std.proofs.Common.{◌<◌, length}
use Rattle.candidate_keys.proofs.Leasts.{IsLeastOf}
use Rattle.candidate_keys.proofs.asserts.least_of.Given as goal

abbrev pub invariant-loop-k : goal.invariant-loop-k
invariant-loop-k l = record {
  within : l.least < length l.keys;
  first : IsLeastOf l.keys l.least l.k;
}
