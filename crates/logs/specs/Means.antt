-- What a report is, said by what its numbers are and not by how they are found. That two reports that are so of the same readings are equal
-- is still to be shown.
-- Assumes nothing: these are definitions.
use Rattle.std.specs.Prelude.{◌≡◌, ℕ, ◌+◌, ◌-◌, ◌≤◌, ◌<◌, List, [], ◌∷◌, ◌++◌, ℤ, pos, ◌+ℤ◌, length, get_or, ◌≤ℤ◌}
use Rattle.logs.specs.Layout.{Reading}
use Rattle.logs.specs.Report.{values_of}
use Rattle.logs.specs.Written.{at}
use Rattle.logs.specs.declared.Report.{Report}

-- n readings from place p on, all of the same value
pub record RunAt (rs : List Reading) (p n : ℕ) : Type 0 where
  pub within : p + n ≤ length rs
  pub equal : (i : ℕ) → i < n → (at rs (p + i)).value ≡ (at rs p).value

-- "the run of equal neighbours with the most readings (how many, and the ticks from its first to its last; the earliest of equals)": it is a run
-- of equal neighbours, no run has more readings, and none that begins earlier has as many
pub record Stood (rs : List Reading) (count ticks : ℕ) : Type 0 where
  pub place : ℕ
  pub is : RunAt rs place count
  pub most : (q m : ℕ) → RunAt rs q m → m ≤ count
  pub earliest : (q m : ℕ) → q < place → RunAt rs q m → m < count
  pub over : ticks ≡ (at rs (place + count - 1)).tick - (at rs place).tick

-- one of the values, and none is beyond it; of no values 0
pub data Bound (within : ℤ → ℤ → Type 0) : List ℤ → ℤ → Type 0 where
  of_none : Bound within [] (pos 0)
  of_some : {zs : List ℤ} {z : ℤ} (i : ℕ) → i < length zs → get_or zs i (pos 0) ≡ z
      → ((j : ℕ) → j < length zs → within z (get_or zs j (pos 0))) → Bound within zs z

-- a sum, however the values are taken together
pub data SumOf : List ℤ → ℤ → Type 0 where
  of_none : SumOf [] (pos 0)
  of_one : (z : ℤ) → SumOf (z ∷ []) z
  of_two : {xs ys : List ℤ} {x y : ℤ} → SumOf xs x → SumOf ys y → SumOf (xs ++ ys) (x +ℤ y)

pub record Reports (id : ℕ) (rs : List Reading) (r : Report) : Type 0 where
  pub number : r.readings ≡ length rs
  pub lowest : Bound (λ (x y : ℤ). x ≤ℤ y) (values_of id rs) r.lowest
  pub highest : Bound (λ (x y : ℤ). y ≤ℤ x) (values_of id rs) r.highest
  pub sum : SumOf (values_of id rs) r.sum
  pub run : Stood rs r.run r.ticks
