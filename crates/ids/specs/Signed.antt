-- A number read as signed: a real's raw number, a signed 16-bit number, a byte of a signed pair (01, 'Data values', 'The listing').
-- Assumes nothing: these are definitions.
use Rattle.std.specs.Prelude.{ℕ, suc, ◌+◌, ◌-◌, Bool, true, false, cond, ltb, ℤ, pos, negsuc}

-- The raw numbers below the half are themselves. From the half on n stands for n less twice the half. (`pos n` is n, `negsuc n` is -(n + 1).)
abbrev pub signed : ℕ → ℕ → ℤ
signed half n = cond (ltb n half) (pos n) (negsuc (half + half - suc n))

-- of 16 bits, and of 8
abbrev pub signed16 : ℕ → ℤ
signed16 n = signed 0x8000 n

abbrev pub signed8 : ℕ → ℤ
signed8 n = signed 0x80 n

abbrev pub below0 : ℤ → Bool
below0 (pos n) = false
below0 (negsuc n) = true
