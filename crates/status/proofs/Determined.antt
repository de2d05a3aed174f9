-- Nothing is left open by a contract of this crate: two results that it allows are equal.
-- Assumes nothing.
use mathlib.Core.Path.{sym, ◌∙◌}
use Rattle.word.proofs.One.{One}
use Rattle.status.proofs.shows.Reads as shows_reads
use Rattle.status.proofs.shows.Kinds as shows_kinds
use Rattle.status.proofs.lacks.Reads as lacks_reads
use Rattle.status.proofs.lacks.Kinds as lacks_kinds
use Rattle.status.proofs.word_by.Reads as word_by_reads
use Rattle.status.proofs.word_by.Kinds as word_by_kinds

pub shows_one : One shows_kinds.ps shows_kinds.r shows_reads.Post
shows_one κs a u v x y p q = p ∙ sym q

pub lacks_one : One lacks_kinds.ps lacks_kinds.r lacks_reads.Post
lacks_one κs a u v x y p q = p ∙ sym q

pub word_by_one : One word_by_kinds.ps word_by_kinds.r word_by_reads.Post
word_by_one κs a u v x y p q = p ∙ sym q
