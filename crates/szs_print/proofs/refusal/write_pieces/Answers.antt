use Rattle.std.proofs.Common.{ℕ, List, arith, Bor}
use Rattle.std.proofs.lemmas.List.Folds.{length-flat_map-take}
use Rattle.szs_print.proofs.Writing.{nothing, parted, front_of_all}
use Rattle.szs_print.proofs.refusal.write_pieces.Goals as goal

pub write_piece-requires : goal.write_piece-requires
write_piece-requires g c =
    let within = length-flat_map-take (λ (p : Bor (List ℕ)). p.now) c.args.pieces.now c.loop-piece.piece-index nothing c.loop-piece-test.true in
    omega (arith, within, c.loop-piece.invariant.counted)

pub returns-in-Err-clause-front : goal.returns-in-Err-clause-front
returns-in-Err-clause-front g c =
    front_of_all _ _ _ _ _ _ _ c.loop-piece.written c.in-Err.fault c.loop-piece.invariant.counted (parted c.args.pieces.now c.loop-piece.piece-index c.loop-piece-test.true) c.loop-piece.invariant.appended c.in-Err.ensures.front

pub overflow_add-written : goal.overflow_add-written
overflow_add-written g c =
    let within = length-flat_map-take (λ (p : Bor (List ℕ)). p.now) c.args.pieces.now c.loop-piece.piece-index nothing c.loop-piece-test.true in
    omega (arith, within, c.loop-piece.invariant.counted)
