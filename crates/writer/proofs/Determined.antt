-- Nothing is left open by a contract of this crate: two results that it allows, and two rooms at exit, are equal.
-- Assumes nothing.
use mathlib.Core.Path.{sym, ◌∙◌}
use Rattle.word.proofs.One.{OneRoom}
use Rattle.writer.proofs.write.Reads as write_reads
use Rattle.writer.proofs.write.Kinds as write_kinds

pub write_one : OneRoom write_kinds.ps write_kinds.r write_reads.Post (λ κs x. x.1.0.now)
write_one κs a u v x y p q = (p.0 ∙ sym q.0, p.1 ∙ sym q.1)
