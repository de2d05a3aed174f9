-- Nothing is left open by a contract of this crate: two results that it allows are equal.
-- Assumes nothing.
use mathlib.Core.Path.{sym, ◌∙◌}
use Rattle.word.proofs.One.{One}
use Rattle.trace.proofs.sent.Reads as sent_reads
use Rattle.trace.proofs.sent.Kinds as sent_kinds
use Rattle.trace.proofs.told.Reads as told_reads
use Rattle.trace.proofs.told.Kinds as told_kinds

pub sent_one : One sent_kinds.ps sent_kinds.r sent_reads.Post
sent_one κs a u v x y p q = p ∙ sym q

pub told_one : One told_kinds.ps told_kinds.r told_reads.Post
told_one κs a u v x y p q = p ∙ sym q
