-- The lines that are printed for an event of a script.
-- Assumes nothing: these are definitions.
use Rattle.std.specs.Prelude.{ℕ, Bool, true, false, cond, List, [], ◌∷◌, ◌++◌, Option, Some, None}
use Rattle.turns.specs.declared.Talker.{Talker}
use Rattle.word.specs.declared.Frame.{Frame}
use Rattle.text.specs.Text.{empty_text, puts, says}
use Rattle.script.specs.declared.Event.{Event}
use Rattle.script.specs.declared.Event.TheVariants.{Skip, Wrong, Ticks, Thermostat, Boiler, Message, Room, Fresh}
use Rattle.promises.specs.declared.Outs.{Outs}
use Rattle.promises.specs.declared.Told.{Told}
use Rattle.trace.specs.Lines.{sent_of, told_of}

-- what is printed of a line: what a text says into which it is put
abbrev pub printed : List ℕ → List ℕ
printed l = says (puts empty_text l)

-- a frame that goes out
unfoldable pub sent_if : ℕ → ℕ → Option (Talker × Frame) → List (List ℕ)
sent_if time line None = []
sent_if time line (Some (talker, frame)) = printed (sent_of time line frame) ∷ []

-- a tick: what goes out, by line 1 to 4, and what is told
unfoldable pub tick_trace : ℕ → Outs → Told → List ℕ → List (List ℕ)
tick_trace time o told room =
    sent_if time 1 o.one
    ++ (sent_if time 2 o.two
    ++ (sent_if time 3 o.three ++ (sent_if time 4 o.four ++ (printed (told_of time 0 told room) ∷ []))))

-- `- line`, for a line of the script that is wrong
abbrev pub wrong_of : Event → Bool
wrong_of Skip = false
wrong_of Wrong = true
wrong_of (Ticks n) = false
wrong_of (Thermostat line frame) = false
wrong_of (Boiler line frame) = false
wrong_of (Message count) = false
wrong_of (Room n) = false
wrong_of (Fresh form) = false

unfoldable pub wrong_if : Event → List (List ℕ)
wrong_if e = cond (wrong_of e) (printed (45 ∷ 32 ∷ 108 ∷ 105 ∷ 110 ∷ 101 ∷ 10 ∷ []) ∷ []) []

-- an event that is no ticks, and what is told of this line to it
unfoldable pub event_trace : ℕ → ℕ → Event → Told → List ℕ → List (List ℕ)
event_trace time line e told room = wrong_if e ++ (printed (told_of time line told room) ∷ [])
