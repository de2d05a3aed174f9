-- The pairs passed stand in front of what the room had behind them.
-- Assumes nothing.
use Rattle.std.proofs.Common.{length, drop, ◌*◌, ◌≡◌, ◌≤◌}
use Rattle.std.proofs.Math.Seq.{paste}
use Rattle.std.specs.Slice.Iter.{chunks_exact_rest, chunks_exact_size}
use Rattle.std.specs.Iterator.Adapters.{enumerate_source, enumerate_count}
use Rattle.script.specs.Digits.{pairs_of}
use Rattle.script.proofs.pairs.pairs.Given as goal

abbrev pub invariant-loop-i : goal.invariant-loop-i
invariant-loop-i l = record {
  written : l.room ≡ paste l.initial.room 0 (pairs_of l.s) (enumerate_count l.i-iterator);
  size : chunks_exact_size (enumerate_source l.i-iterator) ≡ 2;
  within : enumerate_count l.i-iterator * 2 ≤ length l.s;
  left : chunks_exact_rest (enumerate_source l.i-iterator) ≡ drop (enumerate_count l.i-iterator * 2) l.s;
}
