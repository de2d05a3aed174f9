-- Nothing is left open by a contract of this crate: two results that it allows are equal.
-- Assumes nothing.
use mathlib.Core.Path.{sym, ◌∙◌}
use Rattle.word.proofs.One.{One}
use Rattle.rests.proofs.idle.Reads as idle_reads
use Rattle.rests.proofs.idle.Kinds as idle_kinds
use Rattle.rests.proofs.all_idle.Reads as all_idle_reads
use Rattle.rests.proofs.all_idle.Kinds as all_idle_kinds

pub idle_one : One idle_kinds.ps idle_kinds.r idle_reads.Post
idle_one κs a u v x y p q = p ∙ sym q

pub all_idle_one : One all_idle_kinds.ps all_idle_kinds.r all_idle_reads.Post
all_idle_one κs a u v x y p q = p ∙ sym q
