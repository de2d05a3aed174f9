-- Nothing is left open by a contract of this crate: two results that it allows are equal.
-- Assumes nothing.
use mathlib.Core.Path.{sym, ◌∙◌}
use Rattle.word.proofs.One.{One}
use Rattle.questions.proofs.word_of.Reads as word_of_reads
use Rattle.questions.proofs.word_of.Kinds as word_of_kinds

pub word_of_one : One word_of_kinds.ps word_of_kinds.r word_of_reads.Post
word_of_one κs a u v x y p q = p ∙ sym q
