-- What may be told to each kind of input at all, what is written with it and when a frame goes out, where the inputs h come and s is given to each, in a wrapping W.
-- Nothing here knows how the box works. Assumes nothing: these are definitions.
use Rattle.std.specs.Prelude.{ℕ, ◌≡◌, ◌⊎◌, List, [], ◌∷◌, map}
use Rattle.refusals.specs.Numbers.{number_of}
use Rattle.word.specs.declared.Frame.{Frame}
use Rattle.turns.specs.declared.Talker.{Talker}
use Rattle.turns.specs.Events as line
use Rattle.modbus.specs.declared.Reply.{Reply}
use Rattle.modbus.specs.Wrapping.{Wrapping, silences_of, writes}
use Rattle.modbus.specs.Lawful.{GivenAtOnce, Among}
use Rattle.promises.specs.Notes.{BoxNote, quiet, held, passed, dropped, accepted, reply, outcome, refused}
use Rattle.promises.specs.Inputs.{Input, tick, thermostat, boiler, message, Inputs, Gifts, Ticks, Brings}

-- "Order: 15, 9, 5, 6, 7, 8; for Modbus messages 15 comes before 11", and 16 "after 5 and before 6" (02, Ask 1): the numbers that each input can be
-- refused with, a message with its wrapping's own between 15 and 13
abbrev pub refusals : Wrapping → Input → List ℕ
refusals W (tick room) = 15 ∷ []
refusals W (thermostat l f) = 9 ∷ 5 ∷ 16 ∷ 6 ∷ []
refusals W (boiler l f room) = 15 ∷ 9 ∷ 5 ∷ 16 ∷ 6 ∷ 7 ∷ 8 ∷ []
refusals W (message bytes room) = 15 ∷ map number_of (silences_of W)

-- what can be told to an input, and nothing else
pub data May (W : Wrapping) : Input → BoxNote → Type 0 where
  refuses : {x : Input} {n : ℕ} → Among (refusals W x) n → May W x (refused n)
  -- a tick: nothing, or the outcome of the order under way
  tick_quiet : {room : ℕ} → May W (tick room) quiet
  tick_ends : {room bytes wait : ℕ} → May W (tick room) (outcome bytes wait)
  -- "A thermostat frame .. becomes the held frame"
  thermostat_held : {l : ℕ} {f : Frame} → May W (thermostat l f) held
  -- a boiler frame: it is passed on (this one, "unchanged"), or dropped, or it is the outcome
  boiler_passed : {l : ℕ} {f : Frame} {room : ℕ} → May W (boiler l f room) (passed f)
  boiler_dropped : {l : ℕ} {f : Frame} {room : ℕ} → May W (boiler l f room) dropped
  boiler_ends : {l : ℕ} {f : Frame} {room bytes wait : ℕ} → May W (boiler l f room) (outcome bytes wait)
  -- a message: it is an order now, or has its reply
  message_taken : {b : List ℕ} {room : ℕ} → May W (message b room) accepted
  message_replied : {b : List ℕ} {room bytes : ℕ} → May W (message b room) (reply bytes)

-- a reply is told: at once, or as an outcome
pub data Replied : BoxNote → Type 0 where
  said_at_once : (bytes : ℕ) → Replied (reply bytes)
  ends : (bytes wait : ℕ) → Replied (outcome bytes wait)

-- these bytes are what the wrapping writes, with the transaction of the message, for an exception or for unit 5's version
pub record AtOnce (W : Wrapping) (x : Input) (bytes : List ℕ) : Type 0 where
  pub message : List ℕ
  pub came : Brings message x
  pub reply : Reply
  pub given : GivenAtOnce reply
  pub wrote : bytes ≡ writes W (W.transaction message) reply

pub record Tells (W : Wrapping) (h : Inputs) (s : Gifts) : Type 0 where
  pub may : (k : ℕ) → May W (h k) (s k).told
  -- "An accepted order writes nothing yet, nor does a tick or a boiler frame that brings no outcome": a reply is told, or nothing is written
  pub nothing_yet : (k : ℕ) → Replied (s k).told ⊎ ((s k).wrote ≡ [])
  -- what is written at once. (Which bytes are an outcome's, and that it is an accepted order's: `Demand3.earned`.)
  pub said_at_once : (k bytes : ℕ) → (s k).told ≡ reply bytes → AtOnce W (h k) (s k).wrote
  -- "Nothing is sent before a tick": where a frame goes out, on whichever line, a tick has come that isn't refused
  pub at_a_tick : (k l : ℕ) (x : Talker) (f : Frame) → (s k).out l ≡ line.sent x f → Ticks (h k)
