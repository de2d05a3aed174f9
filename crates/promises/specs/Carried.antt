-- 02, Ask 3, for the box: "the relay carries both along, unjudged". Two runs in which the same words come, whatever numbers come with the frames, are
-- given the same but for these; and the same bytes, so no Modbus reply shows them.
-- Nothing here knows how the box works. Assumes nothing: these are definitions.
use Rattle.std.specs.Prelude.{ℕ, ◌≡◌}
use Rattle.turns.specs.Carried.{bare, bare_note}
use Rattle.promises.specs.Notes.{BoxNote, quiet, held, passed, dropped, accepted, reply, outcome, refused}
use Rattle.promises.specs.Inputs.{Input, tick, thermostat, boiler, message, Inputs, Gift, Gifts}

-- an input, and what is told, without the numbers
abbrev pub bare_input : Input → Input
bare_input (tick n) = tick n
bare_input (thermostat l f) = thermostat l (bare f)
bare_input (boiler l f n) = boiler l (bare f) n
bare_input (message b n) = message b n

abbrev pub bare_told : BoxNote → BoxNote
bare_told quiet = quiet
bare_told held = held
bare_told (passed f) = passed (bare f)
bare_told dropped = dropped
bare_told accepted = accepted
bare_told (reply c) = reply c
bare_told (outcome c w) = outcome c w
bare_told (refused n) = refused n

abbrev pub SameWords : Inputs → Inputs → Type 0
SameWords h g = (n : ℕ) → bare_input (h n) ≡ bare_input (g n)

pub record SameGift (a b : Gift) : Type 0 where
  pub told : bare_told a.told ≡ bare_told b.told
  pub wrote : a.wrote ≡ b.wrote
  pub out : (k : ℕ) → bare_note (a.out k) ≡ bare_note (b.out k)

abbrev pub SameGifts : Gifts → Gifts → Type 0
SameGifts s t = (n : ℕ) → SameGift (s n) (t n)
