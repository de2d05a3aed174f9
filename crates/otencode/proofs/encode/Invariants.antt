-- The invariant of `otencode::encode`: the samples of the words so far stand in front.
-- Assumes nothing.
use Rattle.std.proofs.Common.{◌≡◌, ◌*◌, take}
use Rattle.otencode.specs.Encoded.{encoded}
use Rattle.otencode.proofs.encode.Given as goal

abbrev pub invariant-loop-k : goal.invariant-loop-k
invariant-loop-k l = take (l.k * 680) l.room ≡ encoded l.k l.words
