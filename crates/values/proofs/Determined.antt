-- Nothing is left open by a contract of this crate: two results that it allows are equal.
-- Assumes nothing.
use Rattle.std.proofs.Common.{sym, ◌∙◌}
use Rattle.word.proofs.One.{One}
use Rattle.values.proofs.Trip.{bits_one}
use Rattle.values.proofs.typed_of.Reads as typed_of_reads
use Rattle.values.proofs.typed_of.Kinds as typed_of_kinds
use Rattle.values.proofs.bits.Reads as bits_reads
use Rattle.values.proofs.bits.Kinds as bits_kinds

pub typed_of_one : One typed_of_kinds.ps typed_of_kinds.r typed_of_reads.Post
typed_of_one κs a u v x y p q = p ∙ sym q

-- a typed value's bits: by its case, and for a real by the number that gives it
pub bits_alone : One bits_kinds.ps bits_kinds.r bits_reads.Post
bits_alone κs a u v x y p q = bits_one a.0 u v p q
