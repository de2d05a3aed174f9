-- The packed table of src/lib.rt, as a list.
-- Assumes nothing.
use mathlib.Core.List.{List, [], ◌∷◌, ◌++◌}
use Prim.Native.Nat.{ℕ}
use lib.ListN.{replicate}

-- the numbers of src/lib.rt: those of the ids up to 127, and 0 from 128 on
abbrev lower : List ℕ
lower =
    12 ∷ 17 ∷ 20 ∷ 12 ∷ 20 ∷ 12 ∷ 12 ∷ 17 ∷ 17 ∷ 9 ∷  -- 0 to 9
    12 ∷ 28 ∷ 12 ∷ 12 ∷ 17 ∷ 12 ∷ 17 ∷ 9 ∷ 9 ∷ 9 ∷  -- 10 to 19
    28 ∷ 28 ∷ 27 ∷ 17 ∷ 17 ∷ 9 ∷ 9 ∷ 25 ∷ 9 ∷ 9 ∷  -- 20 to 29
    10 ∷ 9 ∷ 9 ∷ 10 ∷ 9 ∷ 12 ∷ 9 ∷ 17 ∷ 25 ∷ 9 ∷  -- 30 to 39
    0 ∷ 0 ∷ 0 ∷ 0 ∷ 0 ∷ 0 ∷ 0 ∷ 0 ∷ 13 ∷ 13 ∷  -- 40 to 49
    0 ∷ 0 ∷ 0 ∷ 0 ∷ 0 ∷ 0 ∷ 25 ∷ 25 ∷ 0 ∷ 0 ∷  -- 50 to 59
    0 ∷ 0 ∷ 0 ∷ 0 ∷ 0 ∷ 0 ∷ 0 ∷ 0 ∷ 0 ∷ 0 ∷  -- 60 to 69
    12 ∷ 20 ∷ 12 ∷ 11 ∷ 12 ∷ 9 ∷ 12 ∷ 12 ∷ 28 ∷ 27 ∷  -- 70 to 79
    9 ∷ 9 ∷ 9 ∷ 9 ∷ 11 ∷ 11 ∷ 12 ∷ 28 ∷ 12 ∷ 28 ∷  -- 80 to 89
    12 ∷ 12 ∷ 0 ∷ 12 ∷ 12 ∷ 12 ∷ 27 ∷ 27 ∷ 20 ∷ 28 ∷  -- 90 to 99
    12 ∷ 12 ∷ 12 ∷ 12 ∷ 12 ∷ 12 ∷ 28 ∷ 12 ∷ 12 ∷ 27 ∷  -- 100 to 109
    27 ∷ 11 ∷ 27 ∷ 27 ∷ 27 ∷ 11 ∷ 27 ∷ 27 ∷ 27 ∷ 27 ∷  -- 110 to 119
    27 ∷ 27 ∷ 27 ∷ 27 ∷ 17 ∷ 9 ∷ 20 ∷ 12 ∷ []  -- 120 to 127

unfoldable pub table : List ℕ
table = lower ++ replicate 128 0
