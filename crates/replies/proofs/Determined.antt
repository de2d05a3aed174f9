-- Nothing is left open by a contract of this crate: two results that it allows, and two rooms at exit, are equal.
-- Assumes nothing.
use mathlib.Core.Path.{sym, ◌∙◌}
use Rattle.word.proofs.One.{One, OneRoom}
use Rattle.replies.proofs.exception.Reads as exception_reads
use Rattle.replies.proofs.exception.Kinds as exception_kinds
use Rattle.replies.proofs.answer.Reads as answer_reads
use Rattle.replies.proofs.answer.Kinds as answer_kinds
use Rattle.replies.proofs.write.Reads as write_reads
use Rattle.replies.proofs.write.Kinds as write_kinds

pub exception_one : One exception_kinds.ps exception_kinds.r exception_reads.Post
exception_one κs a u v x y p q = p ∙ sym q

pub answer_one : One answer_kinds.ps answer_kinds.r answer_reads.Post
answer_one κs a u v x y p q = p ∙ sym q

pub write_one : OneRoom write_kinds.ps write_kinds.r write_reads.Post (λ κs x. x.1.1.1.0.now)
write_one κs a u v x y p q = (p.0 ∙ sym q.0, p.1 ∙ sym q.1)
