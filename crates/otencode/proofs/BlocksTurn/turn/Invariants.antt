-- The invariant of a turn of otencode: each part of a block has 96 words at most.
-- Assumes nothing.
use Rattle.std.proofs.Common.{◌≡◌}
use Rattle.otencode.proofs.BlocksTurn.turn.Given as goal

abbrev pub invariant-loop-words : goal.invariant-loop-words
invariant-loop-words g l = l.words-iterator.size ≡ 384
