-- The frame word (01, 'Frame word'): its fields, its parity, what a line takes for a good one, a word from its fields, and a boiler's word that
-- matches a question.
-- Assumes nothing: these are definitions.
use Rattle.refusals.specs.declared.Refusal.{Refusal}
use Rattle.std.specs.Prelude.{ℕ, ◌+◌, ◌*◌, ◌/◌, ◌%◌, ◌^◌, Bool, true, false, cond, ◌&&◌, ◌||◌, List, [], ◌∷◌, eqb, ltb, Result, Ok, Err}
use Rattle.std.specs.Int.Bits.{bit_xor}
use Rattle.std.specs.Int.Count.{ones}
use Rattle.word.specs.declared.Frame.{Frame}
use Rattle.refusals.specs.declared.Refusal.TheVariants.{OddParity, WrongType, SpareBits}
use Rattle.word.specs.Checks.{Check, must, judged}

-- a frame of this word that wasn't read from samples: it has no distances (02, Ask 3)
abbrev pub unmeasured : ℕ → Frame
unmeasured w = record { word = w; shortest = 0; longest = 0 }

-- n bits of a word, from bit k on
abbrev pub field : ℕ → ℕ → ℕ → ℕ
field k n w = w / 2 ^ k % 2 ^ n

-- "Bit 31 parity, 30 to 28 type, 27 to 24 spare, 23 to 16 id, 15 to 0 value."
unfoldable pub type_of : ℕ → ℕ
type_of w = field 28 3 w

unfoldable pub spare_of : ℕ → ℕ
spare_of w = field 24 4 w

unfoldable pub id_of : ℕ → ℕ
id_of w = field 16 8 w

unfoldable pub value_of : ℕ → ℕ
value_of w = field 0 16 w

-- "The number of ones is even." (Over all 32 bits.)
unfoldable pub even_of : ℕ → Bool
even_of w = eqb (ones w % 2) 0

-- "the spare bits, which should be zero" (02, Ask 1)
unfoldable pub clear_of : ℕ → Bool
clear_of w = eqb (spare_of w) 0

-- A good word for a line, from either side. 5: "parity odd"; then 16: "spare bits not zero" (02, Ask 1, which decides over 000 here).
abbrev pub good_checks : ℕ → List (Check Refusal)
good_checks w = must OddParity (even_of w) ∷ must SpareBits (clear_of w) ∷ []

unfoldable pub good_of : ℕ → Bool
good_of w = judged (good_checks w) (λ n. false) true

unfoldable pub checked_of : ℕ → Result (Unit {0}) Refusal
checked_of w = judged (good_checks w) Err (Ok tt)

-- the word with bit k flipped
abbrev pub flip : ℕ → ℕ → ℕ
flip k w = bit_xor w (2 ^ k)

-- "Types: 0 READ-DATA, 1 WRITE-DATA, 2 INVALID-DATA, 3 reserved, 4 READ-ACK, 5 WRITE-ACK, 6 DATA-INVALID, 7 UNKNOWN-DATAID."
abbrev pub read_data : ℕ
read_data = 0

abbrev pub write_data : ℕ
write_data = 1

abbrev pub invalid_data : ℕ
invalid_data = 2

abbrev pub read_ack : ℕ
read_ack = 4

abbrev pub write_ack : ℕ
write_ack = 5

abbrev pub data_invalid : ℕ
data_invalid = 6

abbrev pub unknown_dataid : ℕ
unknown_dataid = 7

-- type, id and value, with the parity bit still 0: "Spare bits are written 0"
abbrev pub bare : ℕ → ℕ → ℕ → ℕ
bare t i v = t * 2 ^ 28 + i * 2 ^ 16 + v

-- with the parity bit that makes the number of ones even
abbrev pub evened : ℕ → ℕ
evened b = b + ones b % 2 * 2 ^ 31

-- Refusal 6: "type above 7 when a word is written"
unfoldable pub built_of : ℕ → ℕ → ℕ → Result ℕ Refusal
built_of t i v = cond (ltb 7 t) (Err WrongType) (Ok (evened (bare t i v)))

-- "the type is 6 or 7, or 4 for a READ-DATA, or 5 for a WRITE-DATA": q the question's type, a the boiler's
unfoldable pub suits_of : ℕ → ℕ → Bool
suits_of q a =
    (eqb a data_invalid || eqb a unknown_dataid) || ((eqb a read_ack && eqb q read_data) || (eqb a write_ack && eqb q write_data))

-- "A boiler frame of even parity matches a question when the id is equal and the type is" as above; and "a matching frame .. is from then on one
-- that passes this too" (02, Ask 1): it is a good word.
-- The one definition of a matching frame, parity and spare bits included: line and promises cite it.
unfoldable pub matches_of : ℕ → ℕ → Bool
matches_of q b = good_of b && (eqb (id_of q) (id_of b) && suits_of (type_of q) (type_of b))
