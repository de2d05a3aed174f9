-- The line of an answer at a sample's place, in ASCII: `INDEX frame XXXXXXXX S G`, with the smallest and the largest distance between
-- neighbouring middle edges (02, Ask 3), `INDEX refused N`, none where there is no answer.
-- Assumes nothing: these are definitions.
use Rattle.std.specs.Prelude.{ℕ, ◌+◌, ◌%◌, ◌^◌, Bool, true, false, cond, List, [], ◌∷◌, ◌++◌}
use Rattle.refusals.specs.Numbers.{number_of}
use Rattle.text.specs.Text.{empty_text, puts, says, decimal_of, hex_of}
use Rattle.samples.specs.declared.Answer.{Answer}
use Rattle.samples.specs.declared.Answer.TheVariants.{Nothing, Frame, Refused}

-- " frame "
abbrev pub frame_word : List ℕ
frame_word = 32 ∷ 102 ∷ 114 ∷ 97 ∷ 109 ∷ 101 ∷ 32 ∷ []

-- " refused "
abbrev pub refused_word : List ℕ
refused_word = 32 ∷ 114 ∷ 101 ∷ 102 ∷ 117 ∷ 115 ∷ 101 ∷ 100 ∷ 32 ∷ []

unfoldable pub shown_of : ℕ → Answer → List ℕ
shown_of index Nothing = []
shown_of index (Frame f) =
    decimal_of index
    ++ (frame_word ++ (hex_of 8 f.word ++ (32 ∷ (decimal_of f.shortest ++ (32 ∷ (decimal_of f.longest ++ (10 ∷ [])))))))
shown_of index (Refused r) = decimal_of index ++ (refused_word ++ (decimal_of (number_of r) ++ (10 ∷ [])))

-- which answers have a line
abbrev pub tells_of : Answer → Bool
tells_of Nothing = false
tells_of (Frame f) = true
tells_of (Refused r) = true

-- what is printed for an answer: what a text says into which its line is put
unfoldable pub shown_if : ℕ → Answer → List (List ℕ)
shown_if index a = cond (tells_of a) (says (puts empty_text (shown_of index a)) ∷ []) []

-- the place of the next sample; the places begin again after 2^64
abbrev pub next_place : ℕ → ℕ
next_place index = (index + 1) % 2 ^ 64

-- what is printed for the answers to a block of samples, the first of them at a place, and the place behind them
unfoldable pub shown_in : ℕ → List Answer → List (List ℕ)
shown_in index [] = []
shown_in index (a ∷ l) = shown_if index a ++ shown_in (next_place index) l

unfoldable pub last_place : ℕ → List ℕ → ℕ
last_place index [] = index
last_place index (s ∷ l) = last_place (next_place index) l
