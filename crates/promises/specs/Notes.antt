-- What the box tells and what goes out, in 01's numbers and values. One definition from each of the code's answers, and none loses anything
-- (`told_back`, `out_back` of proofs/Notes.antt). The promises speak of notes only.
-- Assumes nothing: these are definitions.
use Rattle.std.specs.Prelude.{ℕ, Bool, true, false, Option, Some, None}
use Rattle.word.specs.declared.Frame.{Frame}
use Rattle.turns.specs.declared.Talker.{Talker}
use Rattle.turns.specs.Events as line
use Rattle.promises.specs.declared.Told.{Told}
use Rattle.promises.specs.declared.Told.TheVariants as told

pub data BoxNote : Type 0 where
  quiet : BoxNote
  -- a thermostat frame is held; a boiler frame is passed on to the thermostat, or dropped
  held : BoxNote
  passed : Frame → BoxNote
  dropped : BoxNote
  -- a message is an order now; so many bytes are its reply at once; or they are an outcome's, with its wait in ticks
  accepted : BoxNote
  reply : (bytes : ℕ) → BoxNote
  outcome : (bytes wait : ℕ) → BoxNote
  -- a numbered answer
  refused : (number : ℕ) → BoxNote

abbrev pub box_note_of : Told → BoxNote
box_note_of told.Quiet = quiet
box_note_of told.Held = held
box_note_of (told.Passed f) = passed f
box_note_of told.Dropped = dropped
box_note_of told.Accepted = accepted
box_note_of (told.Reply c) = reply c
box_note_of (told.Outcome c w) = outcome c w
box_note_of (told.Refused n) = refused n

-- what goes out on a line, as a line alone notes it
abbrev pub gone_of : Option (Talker × Frame) → line.Note
gone_of None = line.nothing
gone_of (Some (t, f)) = line.sent t f

-- how many bytes stand in the room
abbrev pub bytes_in : BoxNote → ℕ
bytes_in quiet = 0
bytes_in held = 0
bytes_in (passed f) = 0
bytes_in dropped = 0
bytes_in accepted = 0
bytes_in (reply c) = c
bytes_in (outcome c w) = c
bytes_in (refused n) = 0

-- what of it concerns an order: nothing, that it is accepted, or its outcome
pub data Concern : Type 0 where
  nothing : Concern
  begins : Concern
  ends : (bytes wait : ℕ) → Concern

abbrev pub concern_of : BoxNote → Concern
concern_of quiet = nothing
concern_of held = nothing
concern_of (passed f) = nothing
concern_of dropped = nothing
concern_of accepted = begins
concern_of (reply c) = nothing
concern_of (outcome c w) = ends c w
concern_of (refused n) = nothing

abbrev pub is_begins : Concern → Bool
is_begins nothing = false
is_begins begins = true
is_begins (ends c w) = false
