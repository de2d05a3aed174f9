-- A page on which lines are collected, so that many go out in one write.
-- Assumes nothing: these are definitions.
use Rattle.std.specs.Prelude.{ℕ, ◌≡◌, ◌+◌, ◌-◌, cond, List, [], ◌∷◌, ◌++◌, ltb, length, take, drop, map, Option}
use Rattle.std.specs.Option.{option_to_list}
use Rattle.text.specs.declared.Text.{Text}
use Rattle.text.specs.Text.{says}

-- a page's bytes, and how many of them are used
pub record Page : Type 0 where
  pub bytes : List ℕ
  pub used : ℕ

abbrev pub page : List ℕ → ℕ → Page
page bytes used = record { bytes = bytes; used = used }

-- what is collected and not yet written
abbrev pub collected : Page → List ℕ
collected p = take p.used p.bytes

-- with nothing collected; the bytes stay
abbrev pub emptied : Page → Page
emptied p = page p.bytes 0

-- a line at a place of a page's bytes; what lies behind it stays
abbrev pub put : List ℕ → ℕ → List ℕ → Page
put bytes at l = page (take at bytes ++ l ++ drop (at + length l) bytes) (at + length l)

-- A page with one line more: behind what it holds; in front, where there is no room for it any more; and nowhere, if no page has room.
-- Before the second and the third what the page holds is written, and the line too in the third.
unfoldable pub added : Page → List ℕ → Page
added p l =
    cond (ltb (length p.bytes) (length l)) (page p.bytes 0)
    (cond (ltb (length p.bytes - length l) p.used) (put p.bytes 0 l) (put p.bytes p.used l))

unfoldable pub leaves : Page → List ℕ → List ℕ
leaves p l =
    cond (ltb (length p.bytes) (length l)) (collected p ++ l)
    (cond (ltb (length p.bytes - length l) p.used) (collected p) [])

-- several lines, one after the other, and what is written meanwhile
unfoldable pub all_added : Page → List (List ℕ) → Page
all_added p [] = p
all_added p (l ∷ ls) = all_added (added p l) ls

unfoldable pub all_leave : Page → List (List ℕ) → List ℕ
all_leave p [] = []
all_leave p (l ∷ ls) = leaves p l ++ all_leave (added p l) ls

-- the line of a text, if there is one
abbrev pub texts : Option Text → List (List ℕ)
texts t = map says (option_to_list t)

-- lines, one behind the other
unfoldable pub in_a_row : List (List ℕ) → List ℕ
in_a_row [] = []
in_a_row (l ∷ ls) = l ++ in_a_row ls

-- A page as it stands where a write failed: as after some of the lines, from the first on, and none of the others.
abbrev pub BrokenOff : Page → List (List ℕ) → Page → Type 0
BrokenOff p ls q = (k : ℕ) × (q ≡ all_added p (take k ls))
