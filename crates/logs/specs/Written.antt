-- What a log is, said the other way round: the bytes that are written for line numbers and readings, and what is asked of these at their places.
-- Nothing here is taken from the way a log is read.
-- Assumes nothing: these are definitions.
use Rattle.std.specs.Prelude.{◌≡◌, ℕ, ◌≤◌, ◌<◌, List, [], ◌∷◌, ◌++◌, length, get_or}
use Rattle.places.specs.Bytes.{pair, quad}
use Rattle.logs.specs.Layout.{Reading}

-- "readings of 8 bytes: tick (4), line, id, value (2), high bytes first"
unfoldable pub bytes_of : List Reading → List ℕ
bytes_of [] = []
bytes_of (r ∷ rs) = quad r.tick (r.line ∷ r.id ∷ pair r.value (bytes_of rs))

-- "two sections in fixed order, each after its count: a count byte and that many line numbers ..; then a two-byte count and that many readings"
unfoldable pub log_bytes : List ℕ → List Reading → List ℕ
log_bytes lines rs = length lines ∷ (lines ++ pair (length rs) (bytes_of rs))

-- the reading at a place; past the end all is 0
abbrev pub at : List Reading → ℕ → Reading
at rs i = get_or rs i (record { tick = 0; line = 0; id = 0; value = 0 })

-- bytes that are a log of these readings
pub record Log (s : List ℕ) (rs : List Reading) : Type 0 where
  pub lines : List ℕ
  pub written : s ≡ log_bytes lines rs
  -- "line numbers, 1 to 4, each above the last"
  pub numbers : (i : ℕ) → i < length lines → (1 ≤ get_or lines i 0) × (get_or lines i 0 ≤ 4)
  pub above : (i j : ℕ) → i < j → j < length lines → get_or lines i 0 < get_or lines j 0
  -- "ticks never falling", over all readings of the log
  pub ticks : (i j : ℕ) → i ≤ j → j < length rs → (at rs i).tick ≤ (at rs j).tick
  -- "each line among the first section"
  pub listed : (i : ℕ) → i < length rs → (j : ℕ) × (j < length lines) × (get_or lines j 0 ≡ (at rs i).line)
