-- Nothing is left open by a contract of this crate: two results that it allows are equal. And what the code answers is what the rules answer, as
-- it is.
-- Assumes nothing.
use mathlib.Core.Path.{◌≡◌, sym, ap, ◌∙◌}
use Rattle.word.proofs.One.{Always, One}
use Rattle.samples.specs.Reader.{Step}
use Rattle.samples.specs.Reading.{step_of}
use Rattle.reader.specs.Reads.{reader_of, kept, kept_step}
use Rattle.reader.proofs.Reader.fresh.Reads as fresh_reads
use Rattle.reader.proofs.Reader.fresh.Kinds as fresh_kinds
use Rattle.reader.proofs.Reader.step.Reads as step_reads
use Rattle.reader.proofs.Reader.step.Kinds as step_kinds

pub fresh_one : One fresh_kinds.ps fresh_kinds.r fresh_reads.Post
fresh_one κs a u v x y p q = ap kept (p ∙ sym q)

pub step_one : One step_kinds.ps step_kinds.r step_reads.Post
step_one κs a u v x y p q = ap kept_step (p ∙ sym q)

pub step_answers : Always step_kinds.ps step_kinds.r step_reads.Post (λ κs a u x. u.answer ≡ (step_of (reader_of a.0) a.1.0).answer)
step_answers κs a u x p = ap (λ (s : Step). s.answer) p
