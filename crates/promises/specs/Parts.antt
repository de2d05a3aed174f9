-- What the box makes of what a line says: each note of a line is one of these, and goes out, is told, or is an order's.
-- Assumes nothing: these are definitions.
use Rattle.std.specs.Prelude.{ℕ, Option, Some, None}
use Rattle.refusals.specs.Numbers.{number_of}
use Rattle.word.specs.declared.Frame.{Frame}
use Rattle.word.specs.Frame.{type_of, value_of}
use Rattle.turns.specs.declared.Talker.{Talker}
use Rattle.turns.specs.Events as line
use Rattle.modbus.specs.declared.Outcome.{Outcome}
use Rattle.modbus.specs.declared.Outcome.TheVariants.{Answer, NoAnswer}
use Rattle.promises.specs.declared.Told.{Told}
use Rattle.promises.specs.declared.Told.TheVariants.{Quiet, Held, Passed, Dropped, Refused}

pub data Part : Type 0 where
  nothing : Part
  -- to the boiler
  goes : Talker → Frame → Part
  -- of a frame
  tells : Told → Part
  -- of an order: it is accepted, it gets an exception at once, or it has its outcome and its wait
  takes : Part
  excepts : Part
  ends : Outcome → ℕ → Part

-- what the boiler's frame says
unfoldable pub outcome_of : Frame → Outcome
outcome_of f = Answer (type_of f.word) (value_of f.word)

abbrev pub part_in : line.Note → Part
part_in line.nothing = nothing
part_in (line.sent t f) = goes t f
part_in line.held = tells Held
part_in (line.passed f) = tells (Passed f)
part_in line.dropped = tells Dropped
part_in (line.refused r) = tells (Refused (number_of r))
part_in line.accepted = takes
part_in (line.exception n) = excepts
part_in (line.answer f n) = ends (outcome_of f) n
part_in (line.no_answer n) = ends NoAnswer n

-- what goes out
abbrev pub out_in : Part → Option (Talker × Frame)
out_in nothing = None
out_in (goes t f) = Some (t, f)
out_in (tells t) = None
out_in takes = None
out_in excepts = None
out_in (ends w n) = None

-- what is told of a frame
abbrev pub told_in : Part → Told
told_in nothing = Quiet
told_in (goes t f) = Quiet
told_in (tells t) = t
told_in takes = Quiet
told_in excepts = Quiet
told_in (ends w n) = Quiet
