-- 02, Ask 4: "A second message form carries the same requests and replies." Two boxes, of the wrappings W and X, to which the same comes up to its
-- wrapping, give the same up to its wrapping: replies with the same body, at the same inputs, and the same frames on every line.
-- Nothing here knows how the box works. Assumes nothing: these are definitions.
use Rattle.std.specs.Prelude.{ℕ, ◌≡◌, List}
use Rattle.word.specs.declared.Frame.{Frame}
use Rattle.modbus.specs.Wrapping.{Wrapping}
use Rattle.promises.specs.Notes.{BoxNote, quiet, held, passed, dropped, accepted, reply, outcome, refused}
use Rattle.promises.specs.Inputs.{Input, tick, thermostat, boiler, message, Inputs, Gift, Gifts}

-- two inputs are the same: of two messages the body is, and each has a transaction of its own
pub data SameInput (W X : Wrapping) : Input → Input → Type 0 where
  ticks : (room : ℕ) → SameInput W X (tick room) (tick room)
  thermostats : (l : ℕ) (f : Frame) → SameInput W X (thermostat l f) (thermostat l f)
  boilers : (l : ℕ) (f : Frame) (room : ℕ) → SameInput W X (boiler l f room) (boiler l f room)
  messages : (b : List ℕ) (t u room : ℕ) → SameInput W X (message (W.wraps t b) room) (message (X.wraps u b) room)

abbrev pub SameInputs : Wrapping → Wrapping → Inputs → Inputs → Type 0
SameInputs W X h g = (n : ℕ) → SameInput W X (h n) (g n)

-- what is told, but for the number of bytes, which is that of the bytes written
abbrev pub uncounted : BoxNote → BoxNote
uncounted quiet = quiet
uncounted held = held
uncounted (passed f) = passed f
uncounted dropped = dropped
uncounted accepted = accepted
uncounted (reply c) = reply 0
uncounted (outcome c w) = outcome 0 w
uncounted (refused n) = refused n

pub record SameSaid (W X : Wrapping) (a b : Gift) : Type 0 where
  pub told : uncounted a.told ≡ uncounted b.told
  pub body : W.body a.wrote ≡ X.body b.wrote
  pub out : (k : ℕ) → a.out k ≡ b.out k

abbrev pub Rewrapped : Wrapping → Wrapping → Gifts → Gifts → Type 0
Rewrapped W X s t = (n : ℕ) → SameSaid W X (s n) (t n)
