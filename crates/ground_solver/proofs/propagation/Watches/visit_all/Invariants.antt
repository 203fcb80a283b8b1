use Rattle.std.proofs.Common.{◌≡◌, ◌≤◌, IfSome, vec_len}
use Rattle.ground_solver.specs.Standings.{IsRefutedAt}
use Rattle.ground_solver.specs.Underway.{IsOnward}
use Rattle.ground_solver.proofs.propagation.Watches.visit_all.Given as goal

abbrev pub invariant-watching : goal.invariant-watching
invariant-watching l = record {
  onward : IsOnward l.clauses l.fn.search l.search;
  head : l.search.head ≡ l.fn.search.head;
  found : IfSome l.found (λ place. IsRefutedAt l.clauses l.search.values.items place);
  kept : l.kept ≤ l.k;
  size : vec_len l.watching ≡ l.k-end;
}
