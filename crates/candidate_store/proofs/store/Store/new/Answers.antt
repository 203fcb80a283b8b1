use Rattle.std.proofs.Common.{refl, arith}
use Rattle.me_terms.specs.Grown.{sign_of}
use Rattle.candidate_store.proofs.Framed.{start_frames}
use Rattle.candidate_store.proofs.store.Store.new.Goals as goal

pub returns : goal.returns
returns c = record {
  same_bounds = refl;
  kept = record {
    some = omega arith;
    notes = c.in_ok-notes.ensures (sign_of c.args.bounds.now.start);
    pairs = c.in_ok-pairs.ensures _;
    frames = start_frames c.args.problem.now c.args.bounds.now _ _ _ c.in_ok-frames.ensures.items c.in_ok-step.ensures refl;
    asserts = λ fresh. cc fresh;
  };
}
