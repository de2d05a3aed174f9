-- The numbers of a script: decimal digits, and pairs of hexadecimal ones. A byte is its number in ASCII.
-- Assumes nothing: these are definitions.
use Rattle.std.specs.Prelude.{ℕ, ◌+◌, ◌-◌, ◌*◌, ◌/◌, ◌%◌, Bool, ◌&&◌, if◌then◌else◌, List, [], ◌∷◌, nat_le, ◌==◌, length, Option, Some, None, is_some, unwrap_or, option_map}
use Rattle.std.specs.List.{list_all}
use Rattle.places.specs.Bytes.{word_at}

abbrev pub in_range : ℕ → ℕ → ℕ → Bool
in_range from to b = nat_le from b && nat_le b to

-- only 0 to 9
abbrev pub all_decimal : List ℕ → Bool
all_decimal s = list_all (in_range 48 57) s

-- the number of which these are the next digits
unfoldable pub decimal_from : ℕ → List ℕ → ℕ
decimal_from v [] = v
decimal_from v (b ∷ s) = decimal_from (v * 10 + (b - 48)) s

-- digits alone, behind a number, and together at most so much
unfoldable pub bounded_from : ℕ → ℕ → List ℕ → Option ℕ
bounded_from most v s = if all_decimal s && nat_le (decimal_from v s) most then Some (decimal_from v s) else None

-- a decimal number: one digit or more, no sign, at most so much
unfoldable pub bounded_of : ℕ → List ℕ → Option ℕ
bounded_of most s = if length s == 0 then None else bounded_from most 0 s

-- 0 to 255
abbrev pub byte_of : List ℕ → Option ℕ
byte_of s = bounded_of 255 s

-- the value of a hexadecimal digit, 0 to 9, A to F or a to f; no other byte is one
unfoldable pub digit_of : ℕ → Option ℕ
digit_of b = if in_range 48 57 b then Some (b - 48) else if in_range 65 70 b then Some (b - 55) else if in_range 97 102 b then Some (b - 87) else None

abbrev pub all_hex : List ℕ → Bool
all_hex s = list_all (λ b. is_some (digit_of b)) s

-- the byte of two digits
abbrev pub pair_of : ℕ → ℕ → ℕ
pair_of a b = unwrap_or (digit_of a) 0 * 16 + unwrap_or (digit_of b) 0

-- the bytes of pairs of digits
unfoldable pub pairs_of : List ℕ → List ℕ
pairs_of [] = []
pairs_of (a ∷ []) = []
pairs_of (a ∷ b ∷ s) = pair_of a b ∷ pairs_of s

-- pairs of digits, not more than n of them
unfoldable pub fits : ℕ → List ℕ → Bool
fits n s = length s % 2 == 0 && (nat_le (length s / 2) n && all_hex s)

-- their bytes
unfoldable pub fitting : ℕ → List ℕ → Option (List ℕ)
fitting n s = if fits n s then Some (pairs_of s) else None

-- eight digits, as a word of 32 bits
unfoldable pub hex_word_of : List ℕ → Option ℕ
hex_word_of s = if length s == 8 then option_map (λ b. word_at b 0) (fitting 4 s) else None
