-- Nothing is left open by a contract of this crate: two results that it allows are equal.
-- Assumes nothing.
use mathlib.Core.Path.{sym, ◌∙◌}
use Rattle.word.proofs.One.{One}
use Rattle.kinds.proofs.named.Reads as named_reads
use Rattle.kinds.proofs.named.Kinds as named_kinds
use Rattle.kinds.proofs.name.Reads as name_reads
use Rattle.kinds.proofs.name.Kinds as name_kinds

pub named_one : One named_kinds.ps named_kinds.r named_reads.Post
named_one κs a u v x y p q = p ∙ sym q

pub name_one : One name_kinds.ps name_kinds.r name_reads.Post
name_one κs a u v x y p q = p ∙ sym q
