-- Some of the lines stand on the page, and those of the ids from here on are due.
-- Assumes nothing.
use Rattle.std.proofs.Common.{◌-◌}
use Rattle.print.specs.Reads.{page_of}
use Rattle.print.proofs.Broken.{Due}
use Rattle.otids.specs.Lines.{lines_from}
use Rattle.otids.proofs.add_rows.Given as goal

abbrev pub invariant-loop-id : goal.invariant-loop-id
invariant-loop-id g l = Due (page_of l.initial.page) (lines_from 256 0) (lines_from (256 - l.id) l.id) (page_of l.page)
