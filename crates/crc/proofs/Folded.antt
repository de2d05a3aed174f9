-- The register after some bytes is the fold of one byte's step, as the code has it.
-- Assumes nothing.
use Rattle.std.proofs.Common.{◌≡◌, ℕ, List, [], ◌∷◌, refl}
use Rattle.std.specs.List.{fold}
use Rattle.crc.specs.Crc.{crc_byte, crc_from}

pub from_fold : (c : ℕ) (s : List ℕ) → crc_from c s ≡ fold crc_byte c s
unfolding crc_from
from_fold c [] = refl
from_fold c (b ∷ s) = from_fold (crc_byte c b) s
