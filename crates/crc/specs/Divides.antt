-- Which messages pass, said without a register: the bits of one, as they go out, are a polynomial with the coefficients 0 and 1 that
-- x^16 + x^15 + x^2 + 1 divides. Nothing here is taken from the steps by which a checksum is worked out.
-- Assumes nothing: these are definitions.
use Rattle.std.specs.Prelude.{◌≡◌, ℕ, ◌+◌, ◌*◌, ◌<◌, List, [], ◌∷◌, Bool, true, false, get_or}
use Rattle.std.specs.Int.Bits.{bit_xor}

-- a message is of bytes
abbrev pub Bytes : List ℕ → Type 0
Bytes s = (k : ℕ) → get_or s k 0 < 256

-- the bytes as one number, the first lowest: its binary digits, from the lowest on, are the bits in the order in which they go out
unfoldable pub number : List ℕ → ℕ
number [] = 0
number (b ∷ s) = b + 256 * number s

-- the product of two polynomials, in such digits, the lowest first: xor adds, and doubling is times x
unfoldable pub product : List Bool → ℕ → ℕ
product [] p = 0
product (true ∷ q) p = bit_xor p (product q p * 2)
product (false ∷ q) p = product q p * 2

-- "CRC-16 with 0xA001, start 0xFFFF": with its first sixteen bits turned round it is a multiple of the divisor. The bit that goes out first is the
-- highest power, and the lowest digit here, so that all is read from its other end: 1 + x + x^14 + x^16
abbrev pub Divisible : List ℕ → Type 0
Divisible s = (q : List Bool) × (bit_xor (number s) 0xffff ≡ product q 0x14003)
