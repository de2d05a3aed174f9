-- A lent room: below 680 bytes refusal 15 and nothing changes; otherwise its first 680 bytes are the word's samples and the rest stays.
-- Assumes nothing.
use mathlib.Core.Path.{◌≡◌}
use mathlib.Core.List.{List}
use Prim.Native.Nat.{ℕ, ◌≤◌, ◌<◌}
use borrow.Author.Tests.{lt-ltb, le-ltb}
use lib.ListN.{length, take, drop}
use lib.Seq.{take_at, drop_at}
use Rattle.samples.specs.Written.{samples_of, written_number, written_of, room_after}
use Rattle.samples.proofs.Lengths.{length_samples}

module _ (w : ℕ) (room : List ℕ) where
  pub small_room : length room < 680 → (written_number (written_of room) ≡ 15) × (room_after w room ≡ room)
  small_room h = (simp (lt-ltb (length room) 680 h), simp (lt-ltb (length room) 680 h))

  pub large_room : 680 ≤ length room →
      (written_number (written_of room) ≡ 0) × (take 680 (room_after w room) ≡ samples_of w) × (drop 680 (room_after w room) ≡ drop 680 room)
  large_room h =
      let big = le-ltb (length room) 680 h in
      let n = length_samples w in
      (simp big, simp big (take_at (samples_of w) (drop 680 room) 680 n), simp big (drop_at (samples_of w) (drop 680 room) 680 n))
