-- The words of an input that comes in blocks: a word may begin in one block and end in another. What is printed for an input that comes so
-- is its listing, however it is cut (`whole`, proofs/Whole).
-- Assumes nothing: these are definitions.
use Rattle.std.specs.Prelude.{ℕ, ◌+◌, ◌*◌, ◌%◌, cond, List, [], ◌∷◌, ◌++◌, eqb}
use Rattle.otlist.specs.Listing.{listed_of, short_line}

-- the last four bytes as a number, the first of them the highest, with one byte more
abbrev pub word_after : ℕ → ℕ → ℕ
word_after w b = w % 0x1000000 * 256 + b

-- how many bytes of a word have come, with one byte more: none of the next, where it is the fourth
abbrev pub count_after : ℕ → ℕ
count_after n = (n % 4 + 1) % 4

-- the line of a word that is whole
unfoldable pub line_if : ℕ → ℕ → List (List ℕ)
line_if n w = cond (eqb n 0) (listed_of w ∷ []) []

-- the lines of a block, where n bytes of a word came before it, at the end of w
unfoldable pub lines_in : ℕ → ℕ → List ℕ → List (List ℕ)
lines_in w n [] = []
lines_in w n (b ∷ s) = line_if (count_after n) (word_after w b) ++ lines_in (word_after w b) (count_after n) s

-- what has come after the block
unfoldable pub last_word : ℕ → List ℕ → ℕ
last_word w [] = w
last_word w (b ∷ s) = last_word (word_after w b) s

unfoldable pub last_count : ℕ → List ℕ → ℕ
last_count n [] = n
last_count n (b ∷ s) = last_count (count_after n) s

-- the last line, where n bytes of a word are over at the end
unfoldable pub at_end : ℕ → List (List ℕ)
at_end n = cond (eqb n 0) [] (short_line ∷ [])

-- what is printed for blocks one after the other, where n bytes of a word came before them, at the end of w
unfoldable pub printed_for : ℕ → ℕ → List (List ℕ) → List (List ℕ)
printed_for w n [] = at_end n
printed_for w n (s ∷ blocks) = lines_in w n s ++ printed_for (last_word w s) (last_count n s) blocks
