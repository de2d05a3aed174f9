-- The names of the kinds (01, 'The listing'), in ASCII.
-- Assumes nothing: these are definitions.
use Rattle.std.specs.Prelude.{ℕ, List, [], ◌∷◌}
use Rattle.ids.specs.declared.Kind.{Kind}
use Rattle.ids.specs.declared.Kind.TheVariants.{Raw, Real, S16, U16, Pair, SPair}

-- "Kinds: `real s16 u16 pair spair raw`."
abbrev pub name_of : Kind → List ℕ
name_of Real = 114 ∷ 101 ∷ 97 ∷ 108 ∷ []
name_of S16 = 115 ∷ 49 ∷ 54 ∷ []
name_of U16 = 117 ∷ 49 ∷ 54 ∷ []
name_of Pair = 112 ∷ 97 ∷ 105 ∷ 114 ∷ []
name_of SPair = 115 ∷ 112 ∷ 97 ∷ 105 ∷ 114 ∷ []
name_of Raw = 114 ∷ 97 ∷ 119 ∷ []
