-- The checksum (01, 'Modbus'): "CRC-16 with 0xA001, start 0xFFFF, low byte first", bit by bit.
-- Assumes nothing: these are definitions.
use Rattle.std.specs.Prelude.{ℕ, zero, suc, ◌+◌, ◌-◌, ◌*◌, ◌/◌, ◌%◌, List, [], ◌∷◌, ◌++◌, Bool, ◌&&◌, eqb, leb, length, get_or, take}
use Rattle.std.specs.Int.Bits.{bit_xor}

-- one bit: the lowest goes out, and where it was 1 the rest is xored with 0xA001
abbrev pub crc_bit : ℕ → ℕ
crc_bit c = bit_xor (c / 2) (c % 2 * 0xa001)

unfoldable pub crc_bits : ℕ → ℕ → ℕ
crc_bits zero c = c
crc_bits (suc k) c = crc_bits k (crc_bit c)

-- one byte: it is xored into the register, and eight bits go out
abbrev pub crc_byte : ℕ → ℕ → ℕ
crc_byte c b = crc_bits 8 (bit_xor c b)

unfoldable pub crc_from : ℕ → List ℕ → ℕ
crc_from c [] = c
crc_from c (b ∷ s) = crc_from (crc_byte c b) s

unfoldable pub crc_of : List ℕ → ℕ
crc_of s = crc_from 0xffff s

-- the two bytes of a checksum as they go out, "low byte first"
abbrev pub low_first : ℕ → List ℕ
low_first c = c % 256 ∷ c / 256 ∷ []

-- a body with its checksum behind it
unfoldable pub sealed : List ℕ → List ℕ
sealed b = b ++ low_first (crc_of b)

-- a message without its last two bytes
abbrev pub unsealed : List ℕ → List ℕ
unsealed s = take (length s - 2) s

-- whether the last two bytes are the checksum of those before them
unfoldable pub passes_of : List ℕ → Bool
passes_of s =
    leb 2 (length s)
    && (eqb (get_or s (length s - 2) 0) (crc_of (unsealed s) % 256)
    && eqb (get_or s (length s - 2 + 1) 0) (crc_of (unsealed s) / 256))
