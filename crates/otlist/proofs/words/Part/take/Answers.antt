-- `otlist::words::Part::take` meets its contract: one byte more changes nothing of what has come in the end, and its line is due no more.
-- Assumes nothing.
use Rattle.std.proofs.Common.{◌≡◌, [], drop, refl, sym, ap, ◌∙◌}
use Rattle.std.proofs.Math.ListN.{drop_of_length-le}
use Rattle.std.proofs.lemmas.Result.{MatchResult-from_err}
use Rattle.print.proofs.Broken.{due_all, due_more, due_done, due_broken}
use Rattle.otlist.specs.Words.{lines_in, last_word, last_count}
use Rattle.otlist.proofs.Blocks.{rest_more, word_more, count_more}
use Rattle.otlist.proofs.words.Part.take.Goals as goal

pub loop-b-init : goal.loop-b-init
loop-b-init g c = record { word = refl; count = refl; lines = due_all _ _ }

pub loop-b-preserved : goal.loop-b-preserved
loop-b-preserved g c =
    let s = c.args.block.now in
    let l = c.loop-b in
    let w = c.push.ensures.word in
    let n = c.push.ensures.count in record {
      word = word_more s l.b-index c.loop-b-test.true l.self.word _ w ∙ l.invariant.word;
      count = count_more s l.b-index c.loop-b-test.true l.self.count _ n ∙ l.invariant.count;
      lines = due_more _ _ _ _ _ _ _ _ l.invariant.lines refl
          (rest_more s l.b-index c.loop-b-test.true l.self.word _ l.self.count _ w n) c.in_ok-add_line.ensures.ok;
    }

pub returns-clause-word : goal.returns-clause-word
unfolding last_word
returns-clause-word g c =
    let over : drop c.loop-b.b-index c.args.block.now ≡ [] = drop_of_length-le c.args.block.now c.loop-b-test.false in
    sym (ap (last_word c.loop-b.self.word) over) ∙ c.loop-b.invariant.word

pub returns-clause-count : goal.returns-clause-count
unfolding last_count
returns-clause-count g c =
    let over : drop c.loop-b.b-index c.args.block.now ≡ [] = drop_of_length-le c.args.block.now c.loop-b-test.false in
    sym (ap (last_count c.loop-b.self.count) over) ∙ c.loop-b.invariant.count

pub returns-clause-lines : goal.returns-clause-lines
unfolding lines_in
returns-clause-lines g c =
    let over : drop c.loop-b.b-index c.args.block.now ≡ [] = drop_of_length-le c.args.block.now c.loop-b-test.false in
    due_done _ _ _ _ c.loop-b.invariant.lines (ap (lines_in c.loop-b.self.word c.loop-b.self.count) over)

pub returns-in_err-add_line-clause-err : goal.returns-in_err-add_line-clause-err
returns-in_err-add_line-clause-err g c =
    MatchResult-from_err c.from_residual.result _ _ c.from_residual.ensures.0
    (λ e. due_broken _ _ _ _ _ c.loop-b.invariant.lines c.in_err-add_line.ensures.err)
