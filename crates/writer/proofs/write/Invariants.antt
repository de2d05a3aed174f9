-- The room is filled from the front: the samples so far are the word's.
-- Assumes nothing.
use Rattle.std.proofs.Common.{◌≡◌, ℕ, ◌<◌, get_or}
use Rattle.samples.specs.Written.{samples_of}
use Rattle.writer.proofs.write.Given as goal

abbrev pub invariant-loop-i : goal.invariant-loop-i
invariant-loop-i l = (k : ℕ) → k < l.i → get_or l.sample-items k 0 ≡ get_or (samples_of l.word) k 0
