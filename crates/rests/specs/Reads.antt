-- A line of the code in an array, which the logic reads as a list.
-- Assumes nothing: these are definitions.
use Rattle.std.specs.Prelude.{ℕ, List, get_or, None}
use Rattle.turns.specs.Line.{Line}
use Rattle.turns.specs.declared.Talker.TheVariants.{Thermostat}
use Rattle.turns.specs.declared.Turn.TheVariants.{Rest}
use Rattle.turns.specs.Status.{no_status}
use Rattle.line.specs.declared.Line as code
use Rattle.line.specs.Reads.{as_line}

-- what the logic takes for an element past the end; an array of four has none such
abbrev pub none : code.Line
none = record { turn = Rest 0; held = None; order = None; last = Thermostat; status = no_status }

-- the line at index j
abbrev pub at : List code.Line → ℕ → Line
at l j = as_line (get_or l j none)
