-- The listing (01, 'The listing'), in ASCII: the line of a word, and the lines of a whole input.
-- Assumes nothing: these are definitions.
use Rattle.std.specs.Prelude.{ℕ, suc, ◌/◌, ◌%◌, cond, List, [], ◌∷◌, ◌++◌, ℤ, pos, negsuc}
use Rattle.word.specs.Frame.{even_of, type_of, id_of, value_of}
use Rattle.places.specs.Bytes.{word_at}
use Rattle.text.specs.Text.{decimal_of, hex_of}
use Rattle.ids.specs.declared.Kind.{Kind}
use Rattle.ids.specs.declared.Kind.TheVariants.{Real, S16, U16, Pair, SPair, Raw}
use Rattle.ids.specs.Ids.{kind_of}
use Rattle.ids.specs.Signed.{signed16, signed8}
use Rattle.kinds.specs.Names.{name_of}

abbrev pub space : ℕ
space = 32

abbrev pub minus : ℕ
minus = 45

abbrev pub newline : ℕ
newline = 10

-- a signed number in decimal
unfoldable pub signed_decimal : ℤ → List ℕ
signed_decimal (pos n) = decimal_of n
signed_decimal (negsuc n) = minus ∷ decimal_of (suc n)

-- "the number (two for a pair; a real as its signed raw number; raw as unsigned)"
unfoldable pub listed_numbers : Kind → ℕ → List ℕ
listed_numbers Real v = signed_decimal (signed16 v)
listed_numbers S16 v = signed_decimal (signed16 v)
listed_numbers U16 v = decimal_of v
listed_numbers Pair v = decimal_of (v / 256) ++ (space ∷ decimal_of (v % 256))
listed_numbers SPair v = signed_decimal (signed8 (v / 256)) ++ (space ∷ signed_decimal (signed8 (v % 256)))
listed_numbers Raw v = decimal_of v

-- "type, id in decimal, value in four hex digits, kind, and the number"
unfoldable pub listed_fields : ℕ → List ℕ
listed_fields w =
    decimal_of (type_of w) ++ (space ∷ (decimal_of (id_of w) ++ (space ∷ (hex_of 4 (value_of w)
    ++ (space ∷ (name_of (kind_of (id_of w)) ++ (space ∷ (listed_numbers (kind_of (id_of w)) (value_of w) ++ (newline ∷ [])))))))))

-- "Odd parity prints `- parity`"
unfoldable pub listed_of : ℕ → List ℕ
listed_of w = cond (even_of w) (listed_fields w) (minus ∷ space ∷ 112 ∷ 97 ∷ 114 ∷ 105 ∷ 116 ∷ 121 ∷ newline ∷ [])

-- "a tail of 1 to 3 bytes `- short`"
abbrev pub short_line : List ℕ
short_line = minus ∷ space ∷ 115 ∷ 104 ∷ 111 ∷ 114 ∷ 116 ∷ newline ∷ []

-- "reads 4-byte words from standard input, high byte first, and prints a line each": the lines of a whole input
unfoldable pub listing_of : List ℕ → List (List ℕ)
listing_of [] = []
listing_of (a ∷ []) = short_line ∷ []
listing_of (a ∷ b ∷ []) = short_line ∷ []
listing_of (a ∷ b ∷ c ∷ []) = short_line ∷ []
listing_of (a ∷ b ∷ c ∷ d ∷ s) = listed_of (word_at (a ∷ b ∷ c ∷ d ∷ []) 0) ∷ listing_of s
