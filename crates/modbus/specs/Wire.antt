-- A reply's body, and a lent room (01, 'Modbus' and 'Numbered answers').
-- Assumes nothing: these are definitions.
use Rattle.std.specs.Prelude.{ℕ, ◌+◌, ◌*◌, ◌%◌, ◌≡◌, List, [], ◌∷◌, ◌++◌, leb, length, get_or, drop}
use Rattle.refusals.specs.declared.Refusal.{Refusal}
use Rattle.refusals.specs.declared.Refusal.TheVariants.{ShortRoom}
use Rattle.word.specs.Checks.{Check, must}
use Rattle.places.specs.Bytes.{pair}
use Rattle.modbus.specs.declared.Reply.{Reply}
use Rattle.modbus.specs.declared.Reply.TheVariants.{Exception, Value, Offset, Zero, Whole}

-- unit, function and data; an exception sets the function's highest bit
unfoldable pub body_of : Reply → List ℕ
body_of (Exception u f c) = u ∷ (f % 0x80 + 0x80) ∷ c ∷ []
body_of (Value u f v) = u ∷ f ∷ 0x02 ∷ pair v []
body_of (Offset u f o v) = u ∷ f ∷ pair o (pair v [])
body_of (Zero u f) = u ∷ f ∷ 0x00 ∷ []
body_of (Whole u o v t) = u ∷ 0x41 ∷ pair o (pair v (0x00 ∷ (t % 16 * 16) ∷ []))

-- where the body of a reply has the boiler's value
pub data ValueAt (b : List ℕ) : ℕ → Type 0 where
  -- "02, value"
  value : length b ≡ 5 → ValueAt b 3
  -- 06: "offset, value from the boiler"
  offset_value : length b ≡ 6 → get_or b 1 0 ≡ 0x06 → ValueAt b 4
  -- 41: "offset, value, 00, type times 16"
  whole : length b ≡ 8 → ValueAt b 4

-- bytes in front of a room; "Bytes of a lent room behind the reply .. stay"
abbrev pub placed : List ℕ → List ℕ → List ℕ
placed b room = b ++ drop (length b) room

-- 15, "lent room below 16 bytes (reply)"
abbrev pub least_room : ℕ
least_room = 16

abbrev pub room_checks : List ℕ → List (Check Refusal)
room_checks room = must ShortRoom (leb least_room (length room)) ∷ []
