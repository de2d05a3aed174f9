-- What the samples leave behind, from where the reading stands, is the same at each turn; some of the lines stand on the page, and the others are due.
-- Assumes nothing.
use Rattle.std.proofs.Common.{◌≡◌, drop}
use Rattle.samples.specs.Run.{answers_of, after_of}
use Rattle.reader.specs.Reads.{reader_of}
use Rattle.print.specs.Reads.{page_of}
use Rattle.print.proofs.Broken.{Due}
use Rattle.otdecode.specs.Lines.{shown_in, last_place}
use Rattle.otdecode.proofs.Place.take.Given as goal

abbrev pub invariant-loop-sample : goal.invariant-loop-sample
invariant-loop-sample g l = record {
  reader : after_of (reader_of l.self.reader) (drop l.sample-index l.block) ≡ after_of (reader_of l.initial.self.reader) l.block;
  index : last_place l.self.index (drop l.sample-index l.block) ≡ last_place l.initial.self.index l.block;
  lines : Due (page_of l.initial.page)
      (shown_in l.initial.self.index (answers_of (reader_of l.initial.self.reader) l.block))
      (shown_in l.self.index (answers_of (reader_of l.self.reader) (drop l.sample-index l.block))) (page_of l.page);
}
