-- `otdecode::Place::take` meets its contract: one sample more changes nothing of what is left behind in the end, and its line is due no more.
-- Assumes nothing.
use Rattle.std.proofs.Common.{◌≡◌, List, ℕ, [], drop, refl, sym, ap, ◌∙◌}
use Rattle.std.proofs.Math.ListN.{drop_of_length-le}
use Rattle.std.proofs.lemmas.Result.{MatchResult-from_err}
use Rattle.samples.specs.Run.{answers_of, after_of}
use Rattle.reader.specs.Reads.{reader_of, step_is}
use Rattle.print.proofs.Broken.{due_all, due_more, due_done, due_broken}
use Rattle.otdecode.specs.Lines.{shown_in, last_place}
use Rattle.otdecode.proofs.Shown.{reader_more, place_more, rest_more}
use Rattle.otdecode.proofs.Place.take.Goals as goal

pub loop-sample-init : goal.loop-sample-init
loop-sample-init g c = record { reader = refl; index = refl; lines = due_all _ _ }

pub loop-sample-preserved : goal.loop-sample-preserved
loop-sample-preserved g c =
    let s = c.args.block.now in
    let l = c.loop-sample in
    let here = c.loop-sample-test.true in
    let r = reader_of l.self.reader in
    let x = step_is c.step-step.result in
    let ex = c.step-step.ensures in
    record {
      reader = reader_more s l.sample-index here r x ex ∙ l.invariant.reader;
      index = place_more s l.sample-index here l.self.index _ refl ∙ l.invariant.index;
      lines = due_more _ _ _ _ _ _ _ _ l.invariant.lines refl (rest_more s l.sample-index here r x ex l.self.index _ refl) c.in_ok-add_line.ensures.ok;
    }

pub returns-clause-reader : goal.returns-clause-reader
unfolding after_of
returns-clause-reader g c =
    let over : drop c.loop-sample.sample-index c.args.block.now ≡ [] = drop_of_length-le c.args.block.now c.loop-sample-test.false in
    sym (ap (after_of (reader_of c.loop-sample.self.reader)) over) ∙ c.loop-sample.invariant.reader

pub returns-clause-index : goal.returns-clause-index
unfolding last_place
returns-clause-index g c =
    let over : drop c.loop-sample.sample-index c.args.block.now ≡ [] = drop_of_length-le c.args.block.now c.loop-sample-test.false in
    sym (ap (last_place c.loop-sample.self.index) over) ∙ c.loop-sample.invariant.index

pub returns-clause-lines : goal.returns-clause-lines
unfolding answers_of shown_in
returns-clause-lines g c =
    let over : drop c.loop-sample.sample-index c.args.block.now ≡ [] = drop_of_length-le c.args.block.now c.loop-sample-test.false in
    due_done _ _ _ _ c.loop-sample.invariant.lines
    (ap (λ (x : List ℕ). shown_in c.loop-sample.self.index (answers_of (reader_of c.loop-sample.self.reader) x)) over)

pub returns-in_err-add_line-clause-err : goal.returns-in_err-add_line-clause-err
returns-in_err-add_line-clause-err g c =
    MatchResult-from_err c.from_residual.result _ _ c.from_residual.ensures.0
    (λ e. due_broken _ _ _ _ _ c.loop-sample.invariant.lines c.in_err-add_line.ensures.err)
