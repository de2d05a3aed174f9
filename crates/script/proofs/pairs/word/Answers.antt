-- `script::pairs::word` meets its contract: eight digits fill the four bytes, which are read as a word.
-- Assumes nothing.
use Rattle.std.proofs.Common.{sym, ap, ◌∙◌, ℕ, Some, eq-eqb}
use Rattle.script.specs.Digits.{hex_word_of}
use Rattle.script.proofs.Bytes.{eight}
use Rattle.script.proofs.pairs.word.Goals as goal

pub returns : goal.returns
unfolding hex_word_of
returns c =
    let s = c.args.s.now in
    let e = eight s c.pairs.new.room c.in_ok-pairs.field-0 c.if-s-ne8.false c.in_ok-pairs.ensures.count c.pairs.ensures.written in
    ap (λ (w : ℕ). Some w) c.word_at.ensures ∙ rw (eq-eqb _ _ c.if-s-ne8.false) (sym e)
