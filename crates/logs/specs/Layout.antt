-- A log (02, 'How long has it stood still?'), from its bytes to its readings, in the order of the sentence. Bytes past the end count as 0, and
-- the length is held to the two counts, so no reading is made of such.
-- Assumes nothing: these are definitions.
use Rattle.std.specs.Prelude.{ℕ, zero, suc, ◌+◌, ◌*◌, Bool, true, false, cond, ◌&&◌, ◌||◌, Option, Some, None, List, [], ◌∷◌, leb, ltb, eqb, length, get_or, take, drop}
use Rattle.places.specs.Bytes.{pair_at, word_at}

-- "readings of 8 bytes: tick (4), line, id, value (2), high bytes first"
pub record Reading : Type 0 where
  pub tick : ℕ
  pub line : ℕ
  pub id : ℕ
  pub value : ℕ

unfoldable pub reading_at : List ℕ → ℕ → Reading
reading_at s p = record { tick = word_at s p; line = get_or s (p + 4) 0; id = get_or s (p + 5) 0; value = pair_at s (p + 6) }

-- so many, one behind the other
unfoldable pub readings_at : List ℕ → ℕ → ℕ → List Reading
readings_at s p zero = []
readings_at s p (suc n) = reading_at s p ∷ readings_at s (p + 8) n

-- "A log has two sections in fixed order, each after its count: a count byte and that many line numbers"
abbrev pub lines_of : List ℕ → List ℕ
lines_of s = take (get_or s 0 0) (drop 1 s)

-- "then a two-byte count and that many readings": where that count stands, the count, where the readings begin, and these
abbrev pub count_place : List ℕ → ℕ
count_place s = get_or s 0 0 + 1

abbrev pub count_of : List ℕ → ℕ
count_of s = pair_at s (count_place s)

abbrev pub readings_place : List ℕ → ℕ
readings_place s = count_place s + 2

abbrev pub readings_of : List ℕ → List Reading
readings_of s = readings_at s (readings_place s) (count_of s)

-- no byte short and none over
abbrev pub all_bytes : List ℕ → ℕ
all_bytes s = readings_place s + 8 * count_of s

abbrev pub whole : List ℕ → Bool
whole s = eqb (length s) (all_bytes s)

-- "line numbers, 1 to 4, each above the last", the last being 0 before the first
unfoldable pub rising : ℕ → List ℕ → Bool
rising last [] = true
rising last (n ∷ ns) = ltb last n && (leb n 4 && rising n ns)

-- "each line among the first section"
unfoldable pub among : List ℕ → ℕ → Bool
among [] n = false
among (m ∷ ms) n = eqb m n || among ms n

-- "ticks never falling, each line among the first section": the tick before the first reading being 0
unfoldable pub in_order : List ℕ → ℕ → List Reading → Bool
in_order lines last [] = true
in_order lines last (r ∷ rs) = leb last r.tick && (among lines r.line && in_order lines r.tick rs)

-- the readings of a log, or none of what breaks the layout
unfoldable pub log_of : List ℕ → Option (List Reading)
log_of s = cond (whole s && (rising 0 (lines_of s) && in_order (lines_of s) 0 (readings_of s))) (Some (readings_of s)) None
