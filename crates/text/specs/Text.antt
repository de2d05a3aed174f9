-- Text in ASCII: bytes put one after the other into a line of at most 120, and numbers as digits.
-- Assumes nothing: these are definitions.
use Rattle.std.specs.Prelude.{ℕ, zero, suc, ◌+◌, ◌/◌, ◌%◌, cond, List, [], ◌∷◌, ◌++◌, ltb, set, take, replicate}
use Rattle.text.specs.declared.Text.{Text}

-- an empty line
unfoldable pub empty_text : Text
empty_text = record { bytes = replicate 120 0; len = 0 }

-- one byte more; a full line stays as it is
unfoldable pub pushed : Text → ℕ → Text
pushed t b = cond (ltb t.len 120) (record { bytes = set t.bytes t.len b; len = t.len + 1 }) t

-- the bytes of a list, one after the other
unfoldable pub puts : Text → List ℕ → Text
puts t [] = t
puts t (b ∷ s) = puts (pushed t b) s

-- what a line says
abbrev pub says : Text → List ℕ
says t = take t.len t.bytes

-- a digit of base ten, and of base sixteen in capitals
abbrev pub digit : ℕ → ℕ
digit d = d + 48

abbrev pub hex_digit : ℕ → ℕ
hex_digit d = cond (ltb d 10) (d + 48) (d + 55)

-- at most k digits of a number, high first, none in front of the first that counts
unfoldable pub digits_in : ℕ → ℕ → List ℕ
digits_in zero n = []
digits_in (suc k) n = cond (ltb n 10) (digit n ∷ []) (digits_in k (n / 10) ++ (digit (n % 10) ∷ []))

-- a number in decimal; it has no more digits than its size and one
unfoldable pub decimal_of : ℕ → List ℕ
decimal_of n = digits_in (suc n) n

-- the last k digits of a number in hexadecimal, high first
unfoldable pub hex_of : ℕ → ℕ → List ℕ
hex_of zero n = []
hex_of (suc k) n = hex_of k (n / 16) ++ (hex_digit (n % 16) ∷ [])
