-- However the input is cut into blocks, what is printed for it is its listing.
-- Assumes nothing.
use mathlib.Core.Path.{◌≡◌, refl, sym, ap, ap₂, ◌∙◌}
use mathlib.Core.List.{List, [], ◌∷◌, ◌++◌, append_assoc}
use Prim.Native.Nat.{ℕ, ◌<◌}
use native.Mathlib.Omega.{arith}
use Rattle.print.specs.Page.{in_a_row}
use Rattle.places.specs.Bytes.{pair_at, word_at, quad}
use Rattle.places.proofs.Place.{word_back}
use Rattle.otlist.specs.Listing.{listed_of, listing_of}
use Rattle.otlist.specs.Words.{word_after, line_if, lines_in, last_word, last_count, at_end, printed_for}
use Rattle.otlist.proofs.Blocks.{cut, cut_count}

-- a list of bytes
abbrev pub Bytes : List ℕ → Type 0
Bytes [] = Unit {0}
Bytes (b ∷ s) = (b < 256) × Bytes s

-- in one block or in many
joined : (w n : ℕ) (blocks : List (List ℕ)) →
    printed_for w n blocks ≡ lines_in w n (in_a_row blocks) ++ at_end (last_count n (in_a_row blocks))
unfolding printed_for in_a_row lines_in last_count
joined w n [] = refl
joined w n (s ∷ blocks) =
    let rest = in_a_row blocks in
    ap (λ (x : List (List ℕ)). lines_in w n s ++ x) (joined (last_word w s) (last_count n s) blocks)
    ∙ sym (append_assoc (lines_in w n s) (lines_in (last_word w s) (last_count n s) rest) (at_end (last_count (last_count n s) rest)))
    ∙ ap₂ (λ (x : List (List ℕ)) (m : ℕ). x ++ at_end m) (sym (cut w n s rest)) (sym (cut_count n s rest))

-- in one block, word by word, whatever came before
one_block : (w : ℕ) (s : List ℕ) → Bytes s → lines_in w 0 s ++ at_end (last_count 0 s) ≡ listing_of s
unfolding lines_in line_if last_count at_end listing_of word_at pair_at
one_block w [] h = refl
one_block w (a ∷ []) h = refl
one_block w (a ∷ b ∷ []) h = refl
one_block w (a ∷ b ∷ c ∷ []) h = refl
one_block w (a ∷ b ∷ c ∷ d ∷ s) h =
    let word : ℕ = word_after (word_after (word_after (word_after w a) b) c) d in
    let same : word ≡ word_at (a ∷ b ∷ c ∷ d ∷ []) 0 = omega (arith, h.0, h.1.0, h.1.1.0, h.1.1.1.0) in
    ap₂ (λ (v : ℕ) (l : List (List ℕ)). listed_of v ∷ l) same (one_block word s h.1.1.1.1)

-- four bytes give the line of their word, "high byte first"
pub word_line : (w : ℕ) (s : List ℕ) → listing_of (quad w s) ≡ listed_of w ∷ listing_of s
unfolding listing_of
word_line w s = ap (λ (v : ℕ). listed_of v ∷ listing_of s) (word_back [] [] w)

-- "reads 4-byte words from standard input .. and prints a line each", from a start at which no byte of a word has come
pub whole : (blocks : List (List ℕ)) → Bytes (in_a_row blocks) → printed_for 0 0 blocks ≡ listing_of (in_a_row blocks)
whole blocks h = joined 0 0 blocks ∙ one_block 0 (in_a_row blocks) h
