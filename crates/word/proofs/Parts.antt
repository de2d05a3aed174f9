-- A match taken apart: the three conjuncts of its definition, by name.
-- Assumes nothing.
use mathlib.Core.Path.{◌≡◌, refl}
use mathlib.Core.Bool.{Bool, true, false, ◌&&◌}
use Prim.Native.Nat.{ℕ}
use lib.Dec.{eqb}
use borrow.Author.Tests.{eqb-true, eq-eqb}
use Rattle.word.proofs.Clash.{clash}
use Rattle.word.specs.Frame.{good_of, id_of, type_of, suits_of, matches_of}

-- both parts of a conjunction that holds
pub both : (a b : Bool) → (a && b) ≡ true → (a ≡ true) × (b ≡ true)
both true b e = (refl, e)
both false b e = clash cc

-- the three parts of a match
pub record Parts (q b : ℕ) : Type 0 where
  pub good : good_of b ≡ true
  pub id : id_of q ≡ id_of b
  pub suits : suits_of (type_of q) (type_of b) ≡ true

pub parts : (q b : ℕ) → matches_of q b ≡ true → Parts q b
unfolding matches_of
parts q b m =
    let same = eqb (id_of q) (id_of b) in
    let fits = suits_of (type_of q) (type_of b) in
    let p = both (good_of b) (same && fits) m in
    let s = both same fits p.1 in
    record { good = p.0; id = eqb-true (id_of q) (id_of b) s.0; suits = s.1 }

pub joined : (q b : ℕ) → Parts q b → matches_of q b ≡ true
unfolding matches_of
joined q b p = rw (p.good, eq-eqb (id_of q) (id_of b) p.id) p.suits
