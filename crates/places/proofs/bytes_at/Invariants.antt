-- The invariant of `places::bytes_at`: the bytes below the index are those of the slice.
-- Assumes nothing.
use Rattle.std.proofs.Common.{◌≡◌, ◌+◌, ◌<◌, ℕ, get_or, length}
use Rattle.places.proofs.bytes_at.Given as goal

abbrev pub invariant-loop-k : goal.invariant-loop-k
invariant-loop-k g l = record {
  whole : length l.byte-items ≡ g.row.N;
  read : (i : ℕ) → i < l.k → get_or l.byte-items i 0 ≡ get_or l.s (l.at + i) 0;
}
