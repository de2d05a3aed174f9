-- 01's example of the listing, and a line of each other kind, in ASCII.
-- Assumes nothing.
use mathlib.Core.Path.{◌≡◌, refl, sym, ap, ap₂, ◌∙◌}
use mathlib.Core.Bool.{Bool, true, false, cond}
use mathlib.Core.List.{List, [], ◌∷◌}
use Prim.Native.Nat.{ℕ, ◌%◌, ◌^◌, ◌<◌}
use lib.Dec.{eqb, lit<}
use lib.Count.{ones_in}
use Rattle.word.specs.Frame.{even_of, type_of, id_of, value_of}
use Rattle.word.specs.Fields.{Alike}
use Rattle.word.proofs.Worked.{counted}
use Rattle.places.specs.Bytes.{pair_at, word_at}
use Rattle.text.specs.Text.{decimal_of, digits_in, hex_of}
use Rattle.ids.specs.Ids.{rows, rows_in, rows_of, entry_of, kind_of}
use Rattle.otlist.specs.Listing.{signed_decimal, listed_numbers, listed_fields, listed_of, listing_of}

-- - parity
abbrev parity : List ℕ
parity = 45 ∷ 32 ∷ 112 ∷ 97 ∷ 114 ∷ 105 ∷ 116 ∷ 121 ∷ 10 ∷ []

-- the line of a worked word, whose ones are counted digit by digit
worked : (w : ℕ) (b : Bool) → w < 2 ^ 32 → eqb (ones_in 32 w % 2) 0 ≡ b → listed_of w ≡ cond b (listed_fields w) parity
unfolding listed_of even_of
worked w b h e =
    ap (λ (t : Bool). cond t (listed_fields w) parity) (ap (λ (n : ℕ). eqb (n % 2) 0) (sym (counted 32 w h)) ∙ e)

-- 4 25 3280 real 12928
abbrev boiler_water : List ℕ
boiler_water = 52 ∷ 32 ∷ 50 ∷ 53 ∷ 32 ∷ 51 ∷ 50 ∷ 56 ∷ 48 ∷ 32 ∷ 114 ∷ 101 ∷ 97 ∷ 108 ∷ 32 ∷ 49 ∷ 50 ∷ 57 ∷ 50 ∷ 56 ∷ 10 ∷ []

-- 4 0 030A pair 3 10
abbrev status : List ℕ
status = 52 ∷ 32 ∷ 48 ∷ 32 ∷ 48 ∷ 51 ∷ 48 ∷ 65 ∷ 32 ∷ 112 ∷ 97 ∷ 105 ∷ 114 ∷ 32 ∷ 51 ∷ 32 ∷ 49 ∷ 48 ∷ 10 ∷ []

-- - short
abbrev short : List ℕ
short = 45 ∷ 32 ∷ 115 ∷ 104 ∷ 111 ∷ 114 ∷ 116 ∷ 10 ∷ []

-- 4 25 FF00 real -256
abbrev below_0 : List ℕ
below_0 = 52 ∷ 32 ∷ 50 ∷ 53 ∷ 32 ∷ 70 ∷ 70 ∷ 48 ∷ 48 ∷ 32 ∷ 114 ∷ 101 ∷ 97 ∷ 108 ∷ 32 ∷ 45 ∷ 50 ∷ 53 ∷ 54 ∷ 10 ∷ []

-- 4 33 8000 s16 -32768
abbrev least : List ℕ
least = 52 ∷ 32 ∷ 51 ∷ 51 ∷ 32 ∷ 56 ∷ 48 ∷ 48 ∷ 48 ∷ 32 ∷ 115 ∷ 49 ∷ 54 ∷ 32 ∷ 45 ∷ 51 ∷ 50 ∷ 55 ∷ 54 ∷ 56 ∷ 10 ∷ []

-- 4 22 07EA u16 2026
abbrev year : List ℕ
year = 52 ∷ 32 ∷ 50 ∷ 50 ∷ 32 ∷ 48 ∷ 55 ∷ 69 ∷ 65 ∷ 32 ∷ 117 ∷ 49 ∷ 54 ∷ 32 ∷ 50 ∷ 48 ∷ 50 ∷ 54 ∷ 10 ∷ []

-- 4 48 7F80 spair 127 -128
abbrev bounds : List ℕ
bounds = 52 ∷ 32 ∷ 52 ∷ 56 ∷ 32 ∷ 55 ∷ 70 ∷ 56 ∷ 48 ∷ 32 ∷ 115 ∷ 112 ∷ 97 ∷ 105 ∷ 114 ∷ 32 ∷ 49 ∷ 50 ∷ 55 ∷ 32 ∷ 45 ∷ 49 ∷ 50 ∷ 56 ∷ 10 ∷ []

-- 7 40 FFFF raw 65535
abbrev unlisted : List ℕ
unlisted = 55 ∷ 32 ∷ 52 ∷ 48 ∷ 32 ∷ 70 ∷ 70 ∷ 70 ∷ 70 ∷ 32 ∷ 114 ∷ 97 ∷ 119 ∷ 32 ∷ 54 ∷ 53 ∷ 53 ∷ 51 ∷ 53 ∷ 10 ∷ []

-- 4 0 BCDE pair 188 222
abbrev high_bytes : List ℕ
high_bytes = 52 ∷ 32 ∷ 48 ∷ 32 ∷ 66 ∷ 67 ∷ 68 ∷ 69 ∷ 32 ∷ 112 ∷ 97 ∷ 105 ∷ 114 ∷ 32 ∷ 49 ∷ 56 ∷ 56 ∷ 32 ∷ 50 ∷ 50 ∷ 50 ∷ 10 ∷ []

-- 4 22 FEDC u16 65244
abbrev large : List ℕ
large = 52 ∷ 32 ∷ 50 ∷ 50 ∷ 32 ∷ 70 ∷ 69 ∷ 68 ∷ 67 ∷ 32 ∷ 117 ∷ 49 ∷ 54 ∷ 32 ∷ 54 ∷ 53 ∷ 50 ∷ 52 ∷ 52 ∷ 10 ∷ []

fields : (w : ℕ) (l : List ℕ) → w < 2 ^ 32 → eqb (ones_in 32 w % 2) 0 ≡ true → listed_fields w ≡ l → listed_of w ≡ l
fields w l h e f = worked w true h e ∙ f

-- "Input `40 19 32 80 C0 00 03 0A 40 00 03 0A 80` prints"
pub example :
    listing_of (0x40 ∷ 0x19 ∷ 0x32 ∷ 0x80 ∷ 0xc0 ∷ 0x00 ∷ 0x03 ∷ 0x0a ∷ 0x40 ∷ 0x00 ∷ 0x03 ∷ 0x0a ∷ 0x80 ∷ [])
    ≡ boiler_water ∷ status ∷ parity ∷ short ∷ []
unfolding listing_of word_at pair_at ones_in listed_fields type_of id_of value_of decimal_of digits_in hex_of kind_of entry_of rows_of rows rows_in listed_numbers signed_decimal
example =
    ap₂ (λ (x : List ℕ) (l : List (List ℕ)). x ∷ l) (fields 0x4019_3280 boiler_water (lit< tt) refl refl)
    (ap₂ (λ (x y : List ℕ). x ∷ y ∷ short ∷ []) (fields 0xc000_030a status (lit< tt) refl refl) (worked 0x4000_030a false (lit< tt) refl))

-- "Odd parity prints `- parity`", whatever the word says
pub odd : (w : ℕ) → even_of w ≡ false → listed_of w ≡ parity
unfolding listed_of
odd w e = rw e

-- "the listing stays" (02, Ask 1): two words of one parity, with one type, id and value, have one line, whatever their spare bits
pub spare_listed : (v w : ℕ) → even_of v ≡ even_of w → Alike v w → listed_of v ≡ listed_of w
unfolding listed_of listed_fields
spare_listed v w same a = rw (same, a.type, a.id, a.value)

-- the other kinds, numbers below 0, and large ones
pub record EachKind : Type 0 where
  below_0_line : listed_of 0x4019_ff00 ≡ below_0
  least_line : listed_of 0x4021_8000 ≡ least
  year_line : listed_of 0x4016_07ea ≡ year
  bounds_line : listed_of 0xc030_7f80 ≡ bounds
  unlisted_line : listed_of 0xf028_ffff ≡ unlisted
  high_bytes_line : listed_of 0x4000_bcde ≡ high_bytes
  large_line : listed_of 0x4016_fedc ≡ large

pub each_kind : EachKind
unfolding ones_in listed_fields type_of id_of value_of decimal_of digits_in hex_of kind_of entry_of rows_of rows rows_in listed_numbers signed_decimal
each_kind =
    record {
      below_0_line = fields 0x4019_ff00 below_0 (lit< tt) refl refl;
      least_line = fields 0x4021_8000 least (lit< tt) refl refl;
      year_line = fields 0x4016_07ea year (lit< tt) refl refl;
      bounds_line = fields 0xc030_7f80 bounds (lit< tt) refl refl;
      unlisted_line = fields 0xf028_ffff unlisted (lit< tt) refl refl;
      high_bytes_line = fields 0x4000_bcde high_bytes (lit< tt) refl refl;
      large_line = fields 0x4016_fedc large (lit< tt) refl refl;
    }
