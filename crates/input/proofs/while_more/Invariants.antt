-- The invariant of `input::while_more`: each turn so far said that there is more.
-- Assumes nothing.
use Rattle.input.specs.Turns.{Goes}
use Rattle.input.proofs.while_more.Given as goal

abbrev pub invariant-loop : goal.invariant-loop
invariant-loop g l = Goes g.T.Turn.gives l.initial.turns l.counter l.turns
