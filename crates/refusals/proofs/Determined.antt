-- Nothing is left open by a contract of this crate: two results that it allows are equal.
-- Assumes nothing.
use mathlib.Core.Path.{sym, ◌∙◌}
use Rattle.refusals.proofs.One.{One}
use Rattle.refusals.proofs.Refusal.number.Reads as number_reads
use Rattle.refusals.proofs.Refusal.number.Kinds as number_kinds

pub number_one : One number_kinds.ps number_kinds.r number_reads.Post
number_one κs a u v x y p q = p ∙ sym q
