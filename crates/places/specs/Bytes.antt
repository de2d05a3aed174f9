-- Bytes, and numbers of two and of four of them, the high byte first.
-- Assumes nothing: these are definitions.
use Rattle.std.specs.Prelude.{ℕ, ◌+◌, ◌*◌, ◌/◌, ◌%◌, ◌<◌, List, ◌∷◌, get_or}

-- every element is a byte
abbrev pub Bytes : List ℕ → Type 0
Bytes s = (k : ℕ) → get_or s k 0 < 256

-- two bytes at a place of a list; bytes past the end count as 0
unfoldable pub pair_at : List ℕ → ℕ → ℕ
pair_at s p = get_or s p 0 * 256 + get_or s (p + 1) 0

-- the two bytes of a 16-bit number, before the rest
abbrev pub pair : ℕ → List ℕ → List ℕ
pair v s = v / 256 ∷ v % 256 ∷ s

-- four bytes at a place of a list: two pairs
unfoldable pub word_at : List ℕ → ℕ → ℕ
word_at s p = pair_at s p * 65536 + pair_at s (p + 2)

-- the four bytes of a 32-bit number, before the rest
abbrev pub quad : ℕ → List ℕ → List ℕ
quad w s = pair (w / 65536) (pair (w % 65536) s)
