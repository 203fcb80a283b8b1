use Rattle.std.proofs.Common.{◌≡◌, ◌+◌, ◌≤◌, take, drop}
use Rattle.std.specs.List.{fold}
use Rattle.me_terms.specs.Hashed.{arguments_fed}
use Rattle.me_terms.specs.Variables.{weights}
use Rattle.me_terms.proofs.Waiting.{values}
use Rattle.me_terms.proofs.hash.+feed_part.Given as goal

abbrev pub decreases-feed_part : goal.decreases-feed_part
decreases-feed_part g l = l.count

-- What is left to be fed leads to what all of the part leads to.
abbrev pub invariant-symbols : goal.invariant-symbols
invariant-symbols g l = record {
  total : l.total ≡ weights (values l.rest);
  within : l.at + l.left ≤ l.total;
  fewer : l.left ≤ l.count;
  fed : fold g.H.Hasher.write l.state (take l.left (drop l.at (arguments_fed (values l.rest)))) ≡ fold g.H.Hasher.write l.fn.state (take l.count (drop l.from (arguments_fed (values l.terms))));
}

abbrev pub decreases-symbols : goal.decreases-symbols
decreases-symbols g l = l.left + l.total
