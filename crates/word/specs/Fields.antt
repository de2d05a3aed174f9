-- A word by its fields, and a boiler's word that matches a question, in 01's numbers: the words of the promises on frames (proofs/Fields,
-- proofs/Match, proofs/Spare), to be laid beside the definitions of Frame.
-- Assumes nothing: these are definitions.
use Rattle.std.specs.Prelude.{ℕ, ◌+◌, ◌*◌, ◌%◌, ◌≤◌, ◌<◌, ◌≡◌, ◌⊎◌, true, List, [], ◌∷◌, get_or}
use Rattle.std.specs.Int.Count.{ones}
use Rattle.word.specs.Frame.{even_of, type_of, spare_of, id_of, value_of}

pub record Fields : Type 0 where
  pub parity : ℕ
  pub type : ℕ
  pub spare : ℕ
  pub id : ℕ
  pub value : ℕ

pub record Fit (f : Fields) : Type 0 where
  pub one_bit : f.parity < 2
  pub three_bits : f.type < 8
  pub four_bits : f.spare < 16
  pub a_byte : f.id < 256
  pub two_bytes : f.value < 65536

-- "Bit 31 parity, 30 to 28 type, 27 to 24 spare, 23 to 16 id, 15 to 0 value."
abbrev pub word_of : Fields → ℕ
word_of f = f.parity * 0x8000_0000 + f.type * 0x1000_0000 + f.spare * 0x100_0000 + f.id * 0x1_0000 + f.value

-- what the readers give of it is what it was made of
pub record Read (f : Fields) : Type 0 where
  pub type : type_of (word_of f) ≡ f.type
  pub spare : spare_of (word_of f) ≡ f.spare
  pub id : id_of (word_of f) ≡ f.id
  pub value : value_of (word_of f) ≡ f.value

-- w is built from type, id and value: "Spare bits are written 0", "The number of ones is even."
pub record BuiltFrom (t i v w : ℕ) : Type 0 where
  pub parity : ℕ
  pub one_bit : parity < 2
  pub word : w ≡ word_of (record { parity = parity; type = t; spare = 0; id = i; value = v })
  pub even : ones w % 2 ≡ 0

-- with other spare bits
abbrev pub respared : ℕ → Fields → Fields
respared s f = record { parity = f.parity; type = f.type; spare = s; id = f.id; value = f.value }

-- what the readers give of two words, spare bits aside, is the same
pub record Alike (v w : ℕ) : Type 0 where
  pub type : type_of v ≡ type_of w
  pub id : id_of v ≡ id_of w
  pub value : value_of v ≡ value_of w

-- a good word for a line: "The number of ones is even", and its spare bits are zero, as they "should be" (02, Ask 1)
pub record GoodWord (w : ℕ) : Type 0 where
  pub even : even_of w ≡ true
  pub clear : spare_of w ≡ 0

-- "flips bits in pairs" (02, Ask 1): two of the 32 bits, of which k is a spare one, "27 to 24 spare"
pub record SparePair (k j : ℕ) : Type 0 where
  pub from : 24 ≤ k
  pub upto : k ≤ 27
  pub bit : j < 32
  pub other : j ≡ k → ⊥

-- "the type is 6 or 7, or 4 for a READ-DATA, or 5 for a WRITE-DATA": the boiler's types for a question of type 0 READ-DATA, 1 WRITE-DATA,
-- 2 INVALID-DATA; and for 3 to 7, which no question has
abbrev pub answers : List (List ℕ)
answers =
    (4 ∷ 6 ∷ 7 ∷ [])
    ∷ (5 ∷ 6 ∷ 7 ∷ [])
    ∷ (6 ∷ 7 ∷ [])
    ∷ (6 ∷ 7 ∷ []) ∷ (6 ∷ 7 ∷ []) ∷ (6 ∷ 7 ∷ []) ∷ (6 ∷ 7 ∷ []) ∷ (6 ∷ 7 ∷ [])
    ∷ []

abbrev pub Among : ℕ → List ℕ → Type 0
Among x [] = ⊥
Among x (y ∷ l) = (x ≡ y) ⊎ Among x l

-- "A boiler frame of even parity matches a question when the id is equal and the type is" one of those in the question's row, and its spare
-- bits are zero (02, Ask 1). The values aren't looked at, nor are the question's parity and spare bits.
pub record Matches (q b : Fields) : Type 0 where
  pub even : ones (word_of b) % 2 ≡ 0
  pub clear : b.spare ≡ 0
  pub same_id : q.id ≡ b.id
  pub answers_type : Among b.type (get_or answers q.type [])
