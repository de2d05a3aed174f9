-- `otreal::lines::line` meets its contract: the line of the answer for this float.
-- Assumes nothing.
use Rattle.std.proofs.Common.{ap, ◌∙◌, subst, arith}
use lib.Ieee.{Float}
use Rattle.word.specs.Numbers.{Valued}
use Rattle.text.specs.Text.{empty_text, puts}
use Rattle.values.specs.Real.{BackOf}
use Rattle.otreal.specs.Lines.{line_of, printed_of}
use Rattle.otreal.proofs.Answers.{answered}
use Rattle.otreal.proofs.lines.line.Goals as goal

pub returns : goal.returns
unfolding printed_of
returns c =
    let bits = c.args.bits in
    let back = c.bits.result in
    let right = subst (λ (x : Float). BackOf x back) c.float.ensures c.bits.ensures in
    c.answer.ensures ∙ ap (λ (v : Valued). puts empty_text (line_of v)) (answered bits (omega arith) back right)
