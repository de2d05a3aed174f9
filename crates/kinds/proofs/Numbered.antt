-- The name by a number is that of the kind which the number stands for.
-- Assumes nothing.
use Rattle.std.proofs.Common.{ℕ, ◌≡◌, refl, Bool, true, false, cond, eqb}
use Rattle.ids.specs.declared.Kind.TheVariants.{Raw, Real, S16, U16, Pair, SPair}
use Rattle.ids.specs.Ids.{kind_from}
use Rattle.kinds.specs.Names.{name_of, name_by}

-- of each of the choices that are made
chosen : (a b c d e : Bool) →
    name_of (cond a Real (cond b S16 (cond c U16 (cond d Pair (cond e SPair Raw)))))
    ≡ cond a (name_of Real) (cond b (name_of S16) (cond c (name_of U16) (cond d (name_of Pair) (cond e (name_of SPair) (name_of Raw)))))
chosen true b c d e = refl
chosen false true c d e = refl
chosen false false true d e = refl
chosen false false false true e = refl
chosen false false false false true = refl
chosen false false false false false = refl

pub by_number : (n : ℕ) → name_of (kind_from n) ≡ name_by n
unfolding name_by
by_number n = chosen (eqb n 1) (eqb n 2) (eqb n 3) (eqb n 4) (eqb n 5)
