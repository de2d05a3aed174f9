-- `line::start::start`: of those that have been asked none waits, and the rest of the round is still to be asked.
-- Assumes nothing.
use Rattle.std.proofs.Common.{◌≡◌, drop}
use Rattle.line.specs.Reads.{as_line}
use Rattle.turns.specs.Turns.{round_of, first_of, start_of}
use Rattle.line.proofs.start.start.Given as goal

abbrev pub invariant-loop-talker : goal.invariant-loop-talker
invariant-loop-talker l = record {
  round : l.talker-items ≡ round_of l.line.last;
  rest : start_of (as_line l.line) ≡ first_of (as_line l.line) (drop l.talker-index l.talker-items);
}
