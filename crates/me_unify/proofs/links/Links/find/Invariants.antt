use Rattle.std.proofs.Common.{◌≡◌, ◌<◌, ◌-◌, length, get_or}
use Rattle.me_unify.specs.Linked.{Alike}
use Rattle.me_unify.specs.FlatEnds.{end_of}
use Rattle.me_unify.proofs.links.Links.find.Given as goal

abbrev pub invariant-walk : goal.invariant-walk
invariant-walk l = record {
  within : l.at < length l.self.place.items;
  alike : Alike l.self l.x l.at;
  last : end_of l.self l.at ≡ end_of l.self l.x;
}

abbrev pub decreases-walk : goal.decreases-walk
decreases-walk l = 0xffff_ffff_ffff_ffff - get_or l.self.place.items l.at 0
