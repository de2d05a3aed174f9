-- Nothing is left open by a contract of this crate: two results that it allows are equal.
-- Assumes nothing.
use mathlib.Core.Path.{sym, ◌∙◌}
use Rattle.word.proofs.One.{One}
use Rattle.crc.proofs.checksum.Reads as checksum_reads
use Rattle.crc.proofs.checksum.Kinds as checksum_kinds
use Rattle.crc.proofs.passes.Reads as passes_reads
use Rattle.crc.proofs.passes.Kinds as passes_kinds

pub checksum_one : One checksum_kinds.ps checksum_kinds.r checksum_reads.Post
checksum_one κs a u v x y p q = p ∙ sym q

pub passes_one : One passes_kinds.ps passes_kinds.r passes_reads.Post
passes_one κs a u v x y p q = p ∙ sym q
