-- What otreal prints for the 32 bits of a float, in ASCII: the raw number whose f8.8 real has exactly these float bits, or the refusal.
-- Assumes nothing: these are definitions.
use Rattle.std.specs.Prelude.{ℕ, zero, suc, cond, List, [], ◌∷◌, ◌++◌, eqb}
use Rattle.std.specs.Float.{binary32}
use Rattle.std.specs.Float.Ieee.{to_bits}
use Rattle.word.specs.Numbers.{Valued, valued, refused}
use Rattle.text.specs.Text.{decimal_of, hex_of}
use Rattle.values.specs.Real.{real_of}

-- "a real whose float bits aren't those of one of the 65,536 raw numbers .. is refusal 10": of the raw numbers below n
unfoldable pub raw_below : ℕ → ℕ → Valued
raw_below bits zero = refused 10
raw_below bits (suc raw) = let others = raw_below bits raw in cond (eqb (to_bits binary32 (real_of raw)) bits) (valued raw) others

unfoldable pub raw_of : ℕ → Valued
raw_of bits = raw_below bits 0x1_0000

abbrev pub newline : ℕ
newline = 10

-- "refused" and a space
abbrev pub refused_text : List ℕ
refused_text = 114 ∷ 101 ∷ 102 ∷ 117 ∷ 115 ∷ 101 ∷ 100 ∷ 32 ∷ []

-- four hexadecimal digits, or the refusal's number
unfoldable pub line_of : Valued → List ℕ
line_of (valued raw) = hex_of 4 raw ++ (newline ∷ [])
line_of (refused n) = refused_text ++ (decimal_of n ++ (newline ∷ []))

unfoldable pub printed_of : ℕ → List ℕ
printed_of bits = line_of (raw_of bits)
