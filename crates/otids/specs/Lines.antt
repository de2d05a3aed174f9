-- The list of ids, in ASCII: a line for each id that is listed, `id,hex,kind,scale,read,write`.
-- Assumes nothing: these are definitions.
use Rattle.std.specs.Prelude.{ℕ, zero, suc, ◌+◌, Bool, cond, ◌||◌, List, [], ◌∷◌, ◌++◌}
use Rattle.text.specs.Text.{decimal_of, hex_of}
use Rattle.ids.specs.declared.Kind.{Kind}
use Rattle.ids.specs.declared.Kind.TheVariants.{Real, S16, U16, Pair, SPair, Raw}
use Rattle.ids.specs.Ids.{kind_of, readable_of, writable_of}
use Rattle.kinds.specs.Names.{name_of}

abbrev pub comma : ℕ
comma = 44

-- what a register's number is times: `0.00390625`, a 256th, for a real, and `1`
unfoldable pub scale_of : Kind → List ℕ
scale_of Real = 48 ∷ 46 ∷ 48 ∷ 48 ∷ 51 ∷ 57 ∷ 48 ∷ 54 ∷ 50 ∷ 53 ∷ []
scale_of S16 = 49 ∷ []
scale_of U16 = 49 ∷ []
scale_of Pair = 49 ∷ []
scale_of SPair = 49 ∷ []
scale_of Raw = 49 ∷ []

-- a letter for yes, and `-` for no
abbrev pub mark_of : Bool → ℕ → ℕ
mark_of is letter = cond is letter 45

-- the id in decimal and in two digits of base sixteen, its kind, its scale, `R` and `W`
unfoldable pub line_of : ℕ → List ℕ
line_of id =
    decimal_of id ++ (comma ∷ (hex_of 2 id ++ (comma ∷ (name_of (kind_of id) ++ (comma ∷ (scale_of (kind_of id)
    ++ (comma ∷ mark_of (readable_of id) 82 ∷ comma ∷ mark_of (writable_of id) 87 ∷ 10 ∷ [])))))))

-- 01: "every listed id is at least one of the two"
unfoldable pub line_if : ℕ → List (List ℕ)
line_if id = cond (readable_of id || writable_of id) (line_of id ∷ []) []

-- the lines of so many ids, from one on
unfoldable pub lines_from : ℕ → ℕ → List (List ℕ)
lines_from zero id = []
lines_from (suc k) id = line_if id ++ lines_from k (id + 1)
