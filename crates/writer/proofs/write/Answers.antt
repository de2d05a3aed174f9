-- The samples stand in the first 680 bytes of the room, which has as many.
-- Assumes nothing.
use Rattle.std.proofs.Common.{arith}
use Rattle.std.proofs.lemmas.List.{length-take-le}
use Rattle.writer.proofs.Places.{filled}
use Rattle.writer.proofs.write.Goals as goal

pub sample_at-requires : goal.sample_at-requires
sample_at-requires c = omega (arith, length-take-le 680 c.args.room.now c.if-room-lt-FRAME_SAMPLES.false)

pub returns-clause-bytes : goal.returns-clause-bytes
returns-clause-bytes c =
    let h = length-take-le 680 c.args.room.now c.if-room-lt-FRAME_SAMPLES.false in
    filled _ _ _ c.if-room-lt-FRAME_SAMPLES.false (omega (arith, h)) (λ k g. c.loop-i.invariant k (omega (arith, h)))
