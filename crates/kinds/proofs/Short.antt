-- A kind's name is short, so that it fits a line.
-- Assumes nothing.
use Rattle.std.proofs.Common.{ℕ, ◌≤◌, Bool, true, false, cond, List, length, lit≤}
use Rattle.ids.specs.declared.Kind.{Kind}
use Rattle.ids.specs.declared.Kind.TheVariants.{Raw, Real, S16, U16, Pair, SPair}
use Rattle.kinds.specs.Names.{name_of}

-- both cases of a choice are short
pub either : (b : Bool) (x y : List ℕ) (n : ℕ) → length x ≤ n → length y ≤ n → length (cond b x y) ≤ n
either true x y n p q = p
either false x y n p q = q

pub name_short : (k : Kind) → length (name_of k) ≤ 5
name_short Raw = lit≤ tt
name_short Real = lit≤ tt
name_short S16 = lit≤ tt
name_short U16 = lit≤ tt
name_short Pair = lit≤ tt
name_short SPair = lit≤ tt
