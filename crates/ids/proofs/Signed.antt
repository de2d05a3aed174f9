-- A number read as signed, tried.
-- Assumes nothing.
use Rattle.std.proofs.Common.{◌≡◌, refl, pos, negsuc}
use Rattle.ids.specs.Signed.{signed16, signed8}

-- tried numbers: FF00 is -256, 8000 is -32768, 7FFF is 32767, FF is -1
pub tried : (signed16 0xff00 ≡ negsuc 255) × (signed16 0x8000 ≡ negsuc 32767) × (signed16 0x7fff ≡ pos 32767) × (signed8 0xff ≡ negsuc 0)
tried = (refl, refl, refl, refl)
