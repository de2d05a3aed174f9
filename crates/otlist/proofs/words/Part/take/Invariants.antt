-- What has come after the block, from what has come, is the same at each turn; some of the lines stand on the page, and the others are due.
-- Assumes nothing.
use Rattle.std.proofs.Common.{◌≡◌, drop}
use Rattle.print.specs.Reads.{page_of}
use Rattle.print.proofs.Broken.{Due}
use Rattle.otlist.specs.Words.{lines_in, last_word, last_count}
use Rattle.otlist.proofs.words.Part.take.Given as goal

abbrev pub invariant-loop-b : goal.invariant-loop-b
invariant-loop-b g l = record {
  word : last_word l.self.word (drop l.b-index l.block) ≡ last_word l.initial.self.word l.block;
  count : last_count l.self.count (drop l.b-index l.block) ≡ last_count l.initial.self.count l.block;
  lines : Due (page_of l.initial.page) (lines_in l.initial.self.word l.initial.self.count l.block)
      (lines_in l.self.word l.self.count (drop l.b-index l.block)) (page_of l.page);
}
