-- What is left of the slice still makes of the line what the whole makes of the first.
-- Assumes nothing.
use Rattle.std.proofs.Common.{drop, ◌≡◌}
use Rattle.text.specs.Text.{puts}
use Rattle.text.proofs.Text.put.Given as goal

abbrev pub invariant-loop-b : goal.invariant-loop-b
invariant-loop-b l = puts l.self (drop l.b-index l.s) ≡ puts l.initial.self l.s
