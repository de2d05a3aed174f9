-- Tried numbers of the table, from the pages of document 000 and not from the rows: single ids, and how many ids there are of each kind
-- and each access.
-- Assumes nothing.
use mathlib.Core.Path.{◌≡◌, refl}
use mathlib.Core.List.{List, [], ◌∷◌}
use mathlib.Core.Bool.{Bool, true, false, cond}
use Prim.Native.Nat.{ℕ, suc, ◌/◌, ◌%◌}
use lib.Dec.{eqb}
use Rattle.ids.specs.declared.Kind.{Kind}
use Rattle.ids.specs.Ids.{number_of, raw, real, s16, u16, pair, spair, rows, rows_in, rows_of, entry_of, kind_of, readable_of, writable_of}
use Rattle.ids.proofs.Entries.{table}

-- an id's kind, whether it may be read, and whether it may be written
abbrev Is : ℕ → Kind → Bool → Bool → Type 0
Is id k r w = (kind_of id ≡ k) × (readable_of id ≡ r) × (writable_of id ≡ w)

pub record Tried : Type 0 where
  status : Is 0 pair true false
  control_setpoint : Is 1 real false true
  year : Is 22 u16 true true
  boiler_water : Is 25 real true false
  outside : Is 27 real true true
  solar_collector : Is 30 s16 true false
  bounds : Is 48 spair true false
  slave_product : Is 127 pair true false
  no_row : Is 40 raw false false
  first_above : Is 128 raw false false
  last : Is 255 raw false false

pub tried : Tried
unfolding kind_of readable_of writable_of entry_of rows_of rows rows_in
tried =
    record {
      status = (refl, refl, refl);
      control_setpoint = (refl, refl, refl);
      year = (refl, refl, refl);
      boiler_water = (refl, refl, refl);
      outside = (refl, refl, refl);
      solar_collector = (refl, refl, refl);
      bounds = (refl, refl, refl);
      slave_product = (refl, refl, refl);
      no_row = (refl, refl, refl);
      first_above = (refl, refl, refl);
      last = (refl, refl, refl);
    }

-- how many numbers of a list have a part that is v
count : (ℕ → ℕ) → ℕ → List ℕ → ℕ
count f v [] = 0
count f v (x ∷ l) = let others = count f v l in cond (eqb (f x) v) (suc others) others

kinds : Kind → ℕ
kinds k = count (λ (x : ℕ). x % 8) (number_of k) table

accesses : ℕ → ℕ
accesses v = count (λ (x : ℕ). x / 8) v table

pub record Counted : Type 0 where
  reals : kinds real ≡ 32
  s16s : kinds s16 ≡ 2
  u16s : kinds u16 ≡ 22
  pairs : kinds pair ≡ 43
  spairs : kinds spair ≡ 2
  raws : kinds raw ≡ 155
  read_only : accesses 1 ≡ 58
  write_only : accesses 2 ≡ 14
  both : accesses 3 ≡ 29
  neither : accesses 0 ≡ 155

pub counted : Counted
unfolding kinds accesses count table
counted =
    record {
      reals = refl;
      s16s = refl;
      u16s = refl;
      pairs = refl;
      spairs = refl;
      raws = refl;
      read_only = refl;
      write_only = refl;
      both = refl;
      neither = refl;
    }
