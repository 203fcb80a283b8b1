use Rattle.std.proofs.Common.{◌≡◌, ◌++◌, ◌-◌, map, reverse, take, drop}
use Rattle.me_terms.specs.TermViews.{term_value}
use Rattle.szs_read.proofs.build.taken.Given as goal

abbrev pub invariant-arguments : goal.invariant-arguments
invariant-arguments l = record {
  arguments : l.arguments.items ++ take (l.count - l._argument) (map term_value (reverse l.stack.items)) ≡ take l.count (map term_value (reverse l.initial.stack.items));
  left : drop (l.count - l._argument) (map term_value (reverse l.stack.items)) ≡ drop l.count (map term_value (reverse l.initial.stack.items));
}
