-- P8, from 01's tried numbers, and the published check value of this CRC: the definition's values, computed.
-- Assumes nothing.
use mathlib.Core.Path.{◌≡◌, refl}
use mathlib.Core.List.{[], ◌∷◌}
use Rattle.crc.specs.Crc.{crc_bits, crc_from, crc_of, sealed}

-- "P8 checksum of 05 03 00 76 00 01 goes out 64 54 (003)."
pub p8 : sealed (0x05 ∷ 0x03 ∷ 0x00 ∷ 0x76 ∷ 0x00 ∷ 0x01 ∷ []) ≡ 0x05 ∷ 0x03 ∷ 0x00 ∷ 0x76 ∷ 0x00 ∷ 0x01 ∷ 0x64 ∷ 0x54 ∷ []
unfolding sealed crc_of crc_from crc_bits
p8 = refl

-- the check value of CRC-16/MODBUS, over the digits 1 to 9
pub digits : crc_of (0x31 ∷ 0x32 ∷ 0x33 ∷ 0x34 ∷ 0x35 ∷ 0x36 ∷ 0x37 ∷ 0x38 ∷ 0x39 ∷ []) ≡ 0x4b37
unfolding crc_of crc_from crc_bits
digits = refl

-- bytes of 80 and more
pub high : crc_of (0x81 ∷ 0xc2 ∷ 0xff ∷ 0x80 ∷ []) ≡ 0xb4c9
unfolding crc_of crc_from crc_bits
high = refl
