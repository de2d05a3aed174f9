-- A decimal number, digit by digit.
-- Assumes nothing.
use Rattle.std.proofs.Common.{◌≡◌, sym, ◌∙◌, ℕ, ◌+◌, ◌-◌, ◌*◌, ◌≤◌, ◌<◌, List, [], ◌∷◌, length, get_or, drop, drop-cons, drop_of_length-le, Some, None, add-one, arith, le-leb}
use Rattle.std.proofs.lemmas.Grind.{common_steps}
use Rattle.std.specs.Char.{IsAsciiDigit, IsNotAsciiDigit}
use Rattle.script.specs.Digits.{decimal_from, bounded_from, bounded_of}

-- digits make no number smaller
grows : (v : ℕ) (s : List ℕ) → v ≤ decimal_from v s
unfolding decimal_from
grows v [] = omega arith
grows v (b ∷ s) = let more = grows (v * 10 + (b - 48)) s in omega arith

-- the byte at a place of a field, and the digits behind it
module _ (most v i : ℕ) (s : List ℕ) (h : i < length s) where
  pub digit_at : IsAsciiDigit (get_or s i 0) → bounded_from most (v * 10 + (get_or s i 0 - 48)) (drop (i + 1) s) ≡ bounded_from most v (drop i s)
  unfolding bounded_from decimal_from
  digit_at d = rw (add-one i, drop-cons s i 0 h, le-leb 48 (get_or s i 0) d.0, le-leb (get_or s i 0) 57 d.1)

  pub other_at : IsNotAsciiDigit (get_or s i 0) → bounded_from most v (drop i s) ≡ None
  unfolding bounded_from decimal_from
  other_at d = rw (drop-cons s i 0 h) (grind (arith, common_steps))

  pub over_at : IsAsciiDigit (get_or s i 0) → most < v * 10 + (get_or s i 0 - 48) → bounded_from most v (drop i s) ≡ None
  unfolding bounded_from
  over_at d big = let more = grows (v * 10 + (get_or s i 0 - 48)) (drop (i + 1) s) in sym (digit_at d) ∙ grind (arith, common_steps)

-- no digit is left
pub at_end : (most v i : ℕ) (s : List ℕ) → length s ≤ i → v ≤ most → bounded_from most v (drop i s) ≡ Some v
unfolding bounded_from decimal_from
at_end most v i s h g = rw (drop_of_length-le s h, le-leb v most g)

pub at_most : (most : ℕ) (s : List ℕ) (n : ℕ) → bounded_of most s ≡ Some n → n ≤ most
unfolding bounded_of bounded_from
at_most most s n e = grind (arith, common_steps)
