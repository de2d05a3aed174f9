-- The functions that are served, in 01's words: 03, 04, 06, 10, and for the lines' units 17 and 41. No other is.
-- Assumes nothing.
use mathlib.Core.Path.{◌≡◌, refl, sym, subst}
use mathlib.Core.Bool.{Bool, true, false, cond}
use mathlib.Core.List.{List, [], ◌∷◌}
use Prim.Native.Nat.{ℕ}
use borrow.Author.Tests.{eqb-false, ne_eqb}
use lib.Dec.{eqb}
use Rattle.modbus.specs.Becomes.{Serves, three, four, six, ten, seventeen, forty_one}
use Rattle.modbus.specs.Mapping.{mapping_rows, among, functions_of, own_functions, served_of}

same : (five : Bool) → cond five true true ≡ true
same true = refl
same false = refl

pub serves : {u f : ℕ} → Serves u f → served_of u f ≡ true
unfolding served_of
serves {u} three = same (eqb u 5)
serves {u} four = same (eqb u 5)
serves {u} six = same (eqb u 5)
serves {u} ten = same (eqb u 5)
serves {u} (seventeen other) = rw (ne_eqb u 5 other)
serves {u} (forty_one other) = rw (ne_eqb u 5 other)

-- in a list no number is f
abbrev Absent : ℕ → List ℕ → Type 0
Absent f [] = Unit {0}
Absent f (n ∷ ns) = (f ≡ n → ⊥) × Absent f ns

absent : (f : ℕ) (ns : List ℕ) → Absent f ns → among f ns ≡ false
absent f [] none = refl
absent f (n ∷ ns) (other, rest) = rw (ne_eqb f n other) (absent f ns rest)

pub unserved : (u f : ℕ) → (Serves u f → ⊥) → served_of u f ≡ false
unfolding served_of
unserved u f none = go (eqb u 5) refl
  where
    is : {n : ℕ} → Serves u n → f ≡ n → ⊥
    is s e = none (subst (λ (k : ℕ). Serves u k) (sym e) s)

    go : (five : Bool) → eqb u 5 ≡ five → cond five (among f own_functions) (among f (functions_of mapping_rows)) ≡ false
    go true e = absent f own_functions (is three, (is four, (is six, (is ten, tt))))
    go false e =
        let no17 = is (seventeen (eqb-false u 5 e)) in
        absent f (functions_of mapping_rows)
        (is three, (is four, (is six, (is ten, (no17, (no17, (no17, (no17, (no17, (no17, (is (forty_one (eqb-false u 5 e)), tt)))))))))))
