-- What was read, with the digits left, makes the field's number.
-- Assumes nothing.
use Rattle.std.proofs.Common.{drop, ◌≡◌, ◌≤◌}
use Rattle.script.specs.Digits.{bounded_from, bounded_of}
use Rattle.script.proofs.decimal.number_of.Given as goal

abbrev pub invariant-loop-b : goal.invariant-loop-b
invariant-loop-b l = (l.value ≤ l.most) × (bounded_from l.most l.value (drop l.b-index l.s) ≡ bounded_of l.most l.s)
