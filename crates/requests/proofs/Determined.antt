-- Nothing is left open by a contract of this crate: two results that it allows are equal.
-- Assumes nothing.
use mathlib.Core.Path.{sym, ◌∙◌}
use Rattle.word.proofs.One.{One}
use Rattle.requests.proofs.read.Reads as read_reads
use Rattle.requests.proofs.read.Kinds as read_kinds

pub read_one : One read_kinds.ps read_kinds.r read_reads.Post
read_one κs a u v x y p q = p ∙ sym q
