-- The f8.8 real (01, 'Data values'): "the signed raw number divided by 256, as a single-precision float, with nothing rounded; 0 gives
-- plus zero."
-- Assumes nothing: these are definitions.
use Rattle.refusals.specs.declared.Refusal.{Refusal}
use Rattle.refusals.specs.declared.Refusal.TheVariants.{NoRawNumber}
use Rattle.std.specs.Prelude.{◌≡◌, ℕ, ◌<◌, Bool, unsigned_abs, Float, Result, Ok, Err}
use Rattle.std.specs.Float.{binary32}
use Rattle.std.specs.Float.Ieee.{round}
use Rattle.std.specs.Float.Ieee.Exact.{HasValue}
use Rattle.ids.specs.Signed.{signed16, below0}

-- the signed raw number: its sign and its size
abbrev pub negative : ℕ → Bool
negative raw = below0 (signed16 raw)

abbrev pub sized : ℕ → ℕ
sized raw = unsigned_abs (signed16 raw)

-- the float nearest to it over 256
unfoldable pub real_of : ℕ → Float
real_of raw = round binary32 (negative raw) (sized raw) 256

-- Nothing is rounded: x is finite, has the raw number's sign, and 256 times its size is the raw number's size. A size of 0 has the sign
-- of a raw number below 8000 hex, which is plus. (`real_exact` of proofs/Exact.antt: `real_of raw` is exact for each of the 65,536.)
abbrev pub ExactOf : ℕ → Float → Type 0
ExactOf raw x = HasValue x (negative raw) (sized raw) 256

-- "a real whose float bits aren't those of one of the 65,536 raw numbers (NaN, minus zero, 0.3, 128) is refusal 10": the answer r for the
-- float x is the bits that give x, where some do, no other bits, and otherwise 10
pub record BackOf (x : Float) (r : Result ℕ Refusal) : Type 0 where
  pub given : (raw : ℕ) → raw < 0x1_0000 → x ≡ real_of raw → r ≡ Ok raw
  pub found : (raw : ℕ) → r ≡ Ok raw → (raw < 0x1_0000) × (x ≡ real_of raw)
  pub number : (n : Refusal) → r ≡ Err n → n ≡ NoRawNumber
