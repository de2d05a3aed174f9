-- Nothing is left open by a contract of this crate: two results that it allows, and two rooms at exit, are equal.
-- Assumes nothing.
use mathlib.Core.Path.{sym, ◌∙◌}
use Rattle.word.proofs.One.{OneRoom}
use Rattle.script.proofs.event_of.Reads as event_of_reads
use Rattle.script.proofs.event_of.Kinds as event_of_kinds

pub event_of_one : OneRoom event_of_kinds.ps event_of_kinds.r event_of_reads.Post (λ κs x. x.1.0.now)
event_of_one κs a u v x y p q = (p.0 ∙ sym q.0, p.1 ∙ sym q.1)
