-- The names of the kinds (01, 'The listing'), in ASCII, as the crate of the kinds has them, and by the kinds' numbers.
-- Assumes nothing: these are definitions.
use Rattle.std.specs.Prelude.{ℕ, cond, List, [], ◌∷◌, eqb}
pub use Rattle.ids.specs.Names.{name_of}

-- "Kinds: `real s16 u16 pair spair raw`."
unfoldable pub name_by : ℕ → List ℕ
name_by k =
    cond (eqb k 1) (114 ∷ 101 ∷ 97 ∷ 108 ∷ [])
    (cond (eqb k 2) (115 ∷ 49 ∷ 54 ∷ [])
    (cond (eqb k 3) (117 ∷ 49 ∷ 54 ∷ [])
    (cond (eqb k 4) (112 ∷ 97 ∷ 105 ∷ 114 ∷ [])
    (cond (eqb k 5) (115 ∷ 112 ∷ 97 ∷ 105 ∷ 114 ∷ [])
    (114 ∷ 97 ∷ 119 ∷ [])))))
