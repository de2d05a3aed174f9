-- Nothing is left open by a contract of this crate: two results that it allows are equal.
-- Assumes nothing.
use mathlib.Core.Path.{sym, ◌∙◌}
use Rattle.word.proofs.One.{One}
use Rattle.places.proofs.byte_at.Reads as byte_at_reads
use Rattle.places.proofs.byte_at.Kinds as byte_at_kinds
use Rattle.places.proofs.pair_at.Reads as pair_at_reads
use Rattle.places.proofs.pair_at.Kinds as pair_at_kinds
use Rattle.places.proofs.word_at.Reads as word_at_reads
use Rattle.places.proofs.word_at.Kinds as word_at_kinds

pub byte_at_one : One byte_at_kinds.ps byte_at_kinds.r byte_at_reads.Post
byte_at_one κs a u v x y p q = p ∙ sym q

pub pair_at_one : One pair_at_kinds.ps pair_at_kinds.r pair_at_reads.Post
pair_at_one κs a u v x y p q = p ∙ sym q

pub word_at_one : One word_at_kinds.ps word_at_kinds.r word_at_reads.Post
word_at_one κs a u v x y p q = p ∙ sym q
