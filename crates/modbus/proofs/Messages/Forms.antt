-- The function of a row's form: of the mapping's rows those with an offset in their reply have one function each.
-- Assumes nothing.
use Rattle.std.specs.Prelude.{Option, Some, None}
use Prim.Native.Nat.{ℕ, ◌/◌}
use mathlib.Core.Path.{◌≡◌, refl, subst}
use mathlib.Core.Bool.{Bool, true, false, cond, ◌&&◌}
use mathlib.Core.List.{List, [], ◌∷◌}
use lib.Dec.{eqb}
use borrow.Author.Tests.{eqb-true}
use Rattle.word.proofs.Match.{both}
use Rattle.modbus.specs.declared.rows.Row.{Row}
use Rattle.modbus.specs.declared.shape.Fields.{Fields}
use Rattle.modbus.specs.Mapping.{mapping_rows, offset_by, on_of, fits_of, first_of}
use Rattle.modbus.specs.Lawful.{Coded}

abbrev AllCoded : List Row → Type 0
AllCoded [] = Unit {0}
AllCoded (r ∷ rs) = Coded r.function r.form × AllCoded rs

abbrev pub FoundCoded : ℕ → Option Row → Type 0
FoundCoded f (Some r) = Coded f r.form
FoundCoded f None = Unit {0}

first_coded : (rs : List Row) (a : Fields) → AllCoded rs → FoundCoded a.function (first_of rs a)
unfolding fits_of
first_coded [] a all = tt
first_coded (r ∷ rs) a all = go (fits_of r a) refl (first_coded rs a all.1)
  where
    rest : Bool
    rest = eqb r.reads a.reads && (eqb r.writes a.writes && on_of r.page (offset_by r a / 256))

    go : (b : Bool) → fits_of r a ≡ b → FoundCoded a.function (first_of rs a) → FoundCoded a.function (cond b (Some r) (first_of rs a))
    go true e later = subst (λ (f : ℕ). Coded f r.form) (eqb-true r.function a.function (both (eqb r.function a.function) rest e).0) all.0
    go false e later = later

-- the first row that fits, of the mapping's own
pub row_coded : (a : Fields) → FoundCoded a.function (first_of mapping_rows a)
row_coded a = first_coded mapping_rows a (tt, (tt, (refl, (refl, (tt, (tt, (tt, (tt, (tt, (tt, (tt, tt)))))))))))
