-- Writing samples (01, 'Samples'): the 680 of a word, and a lent room before and after.
-- Assumes nothing: these are definitions.
use Rattle.std.specs.Prelude.{List, [], ◌∷◌, ◌++◌, cond, ltb, ℕ, zero, suc, ◌-◌, ◌/◌, ◌%◌, ◌^◌, length, drop, replicate, Result, Ok, Err}
use Rattle.refusals.specs.declared.Refusal.{Refusal}
use Rattle.refusals.specs.declared.Refusal.TheVariants.{ShortRoom}
use Rattle.refusals.specs.Numbers.{number_of}

-- "A bit lasts 20 samples when written. Bit 1 is active then idle, bit 0 idle then active"
abbrev pub bit_samples : ℕ → List ℕ
bit_samples b = replicate 10 b ++ replicate 10 (1 - b)

unfoldable pub in_samples : List ℕ → List ℕ
in_samples [] = []
in_samples (b ∷ l) = bit_samples b ++ in_samples l

-- the lowest k bits of a number, highest first
unfoldable pub bits_of : ℕ → ℕ → List ℕ
bits_of zero w = []
bits_of (suc k) w = w / 2 ^ k % 2 ∷ bits_of k w

-- "a frame is a start bit 1, 32 bits highest first, a stop bit 1: 680 samples written, for any word, odd parity too."
abbrev pub frame_bits : ℕ → List ℕ
frame_bits w = 1 ∷ bits_of 32 w ++ (1 ∷ [])

unfoldable pub samples_of : ℕ → List ℕ
samples_of w = in_samples (frame_bits w)

-- 01's number of each answer; 0 where it has none
abbrev pub written_number : Result (Unit {0}) Refusal → ℕ
written_number (Ok _) = 0
written_number (Err r) = number_of r

-- "15: lent room below 680 (samples)"
abbrev pub no_room : Result (Unit {0}) Refusal
no_room = Err ShortRoom

abbrev pub written_of : List ℕ → Result (Unit {0}) Refusal
written_of room = cond (ltb (length room) 680) no_room (Ok tt)

-- "'None' means that state and every lent byte stay"; "Bytes of a lent room behind the 680 samples stay."
abbrev pub room_after : ℕ → List ℕ → List ℕ
room_after w room = cond (ltb (length room) 680) room (samples_of w ++ drop 680 room)
