-- 02, Ask 3: "Each frame the reader gives shall come with the smallest and largest distance between neighbouring middle edges, and the relay carries
-- both along, unjudged." That they go out and are passed on is said of the frame as a whole (`Relay`: the very frame that was held, the very frame
-- that came). Here: an order's own frame has none, and nothing is decided by them.
-- Nothing here knows a line. Assumes nothing: these are definitions.
use Rattle.std.specs.Prelude.{ℕ, ◌≡◌}
use Rattle.word.specs.declared.Frame.{Frame}
use Rattle.word.specs.Frame.{unmeasured}
use Rattle.turns.specs.declared.Talker.TheVariants.{Modbus}
use Rattle.turns.specs.Events.{Event, pass, tick, thermostat, boiler, order, Events}
use Rattle.turns.specs.Events.{Note, nothing, held, sent, passed, dropped, accepted, exception, answer, no_answer, refused, Notes}
use Rattle.turns.specs.Scene.{Scene}

-- an order's own frame is made by the box, and not read from samples
abbrev pub OrdersUnmeasured : Scene → Type 0
OrdersUnmeasured H = (n : ℕ) (q : Frame) → H.Goes Modbus n q → (q.shortest ≡ 0) × (q.longest ≡ 0)

-- a frame, an event and a note without the numbers
abbrev pub bare : Frame → Frame
bare f = unmeasured f.word

abbrev pub bare_event : Event → Event
bare_event pass = pass
bare_event tick = tick
bare_event (thermostat f) = thermostat (bare f)
bare_event (boiler f) = boiler (bare f)
bare_event (order w) = order w

abbrev pub bare_note : Note → Note
bare_note nothing = nothing
bare_note held = held
bare_note (sent x f) = sent x (bare f)
bare_note (passed f) = passed (bare f)
bare_note dropped = dropped
bare_note accepted = accepted
bare_note (exception n) = exception n
bare_note (answer f n) = answer (bare f) n
bare_note (no_answer n) = no_answer n
bare_note (refused r) = refused r

-- two histories in which the same words come, whatever numbers come with them; and the same is said to both, but for these
abbrev pub SameWords : Events → Events → Type 0
SameWords h g = (n : ℕ) → bare_event (h n) ≡ bare_event (g n)

abbrev pub SameNotes : Notes → Notes → Type 0
SameNotes s t = (n : ℕ) → bare_note (s n) ≡ bare_note (t n)
