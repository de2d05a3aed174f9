-- A frame in a script:
--     W          its word, eight hexadecimal digits
--     W S G      and how straight its edges were: the smallest and the largest distance between neighbouring middle edges, 0 to 255 each
-- Without them both are 0. One space stands between two fields.
-- Assumes nothing: these are definitions.
use Rattle.std.specs.Prelude.{ℕ, ◌+◌, ◌==◌, List, [], ◌∷◌, length, take, drop, position, Option, Some, unwrap_or, option_map}
use Rattle.std.specs.Option.{option_zip}
use Rattle.word.specs.declared.Frame.{Frame}
use Rattle.script.specs.Digits.{byte_of, hex_word_of}

-- where the first field ends: before a space, or at the end
abbrev pub end_of : List ℕ → ℕ
end_of s = unwrap_or (position (λ b. b == 32) s) (length s)

-- the number up to the first space, and what stands behind the space
unfoldable pub first_of : List ℕ → Option ℕ
first_of s = byte_of (take (end_of s) s)

unfoldable pub rest_of : List ℕ → List ℕ
rest_of s = drop (end_of s + 1) s

-- two numbers
unfoldable pub span_of : List ℕ → Option (ℕ × ℕ)
span_of s = option_zip (first_of s) (byte_of (rest_of s))

-- behind a word: nothing; or a space, and the two
unfoldable pub behind_of : List ℕ → Option (ℕ × ℕ)
behind_of [] = Some (0, 0)
behind_of (b ∷ s) = span_of s

-- a word and two numbers as a frame, the smallest first
abbrev pub framed : ℕ × (ℕ × ℕ) → Frame
framed (w, (s, g)) = record { word = w; shortest = s; longest = g }

unfoldable pub framing_of : List ℕ → Option Frame
framing_of s = option_map framed (option_zip (hex_word_of (take (end_of s) s)) (behind_of (drop (end_of s) s)))
