-- The numbers 1 to 4: a line's number is one of them exactly where the box doesn't refuse it with 9; and what stands at a number.
-- Assumes nothing.
use Prim.Native.Nat.{ℕ, ◌≤◌}
use mathlib.Core.Path.{◌≡◌, refl, sym, ap, ◌∙◌, subst}
use mathlib.Core.Bool.{Bool, true, false, cond}
use native.Mathlib.Omega.{arith}
use lib.Dec.{eqb, leb}
use borrow.Author.Tests.{eqb-true, eqb-false, leb-true}
use Rattle.word.proofs.Match.{both}
use Rattle.promises.specs.Four.{inside_of, nth}
use Rattle.promises.specs.Inputs.{Four, one, two, three, four}

pub four_of_lem : (k : ℕ) → 1 ≤ k → k ≤ 4 → Four k
four_of_lem k lo hi = go (eqb k 1) (eqb k 2) (eqb k 3) refl refl refl
  where
    go : (a b c : Bool) → eqb k 1 ≡ a → eqb k 2 ≡ b → eqb k 3 ≡ c → Four k
    go true b c ea eb ec = subst (λ (m : ℕ). Four m) (sym (eqb-true k 1 ea)) one
    go false true c ea eb ec = subst (λ (m : ℕ). Four m) (sym (eqb-true k 2 eb)) two
    go false false true ea eb ec = subst (λ (m : ℕ). Four m) (sym (eqb-true k 3 ec)) three
    go false false false ea eb ec =
        let not-one = eqb-false k 1 ea in
        let not-two = eqb-false k 2 eb in
        let not_three = eqb-false k 3 ec in
        let is : 4 ≡ k = omega arith in
        subst (λ (m : ℕ). Four m) is four

pub inside_four : (k : ℕ) → inside_of k ≡ true → Four k
unfolding inside_of
inside_four k e = let parts = both (leb 1 k) (leb k 4) e in four_of_lem k (leb-true 1 k parts.0) (leb-true k 4 parts.1)

pub here : {k : ℕ} → Four k → inside_of k ≡ true
unfolding inside_of
here one = refl
here two = refl
here three = refl
here four = refl

-- a number outside is no line's
pub outside : (l : ℕ) {k : ℕ} → Four k → inside_of l ≡ false → eqb l k ≡ false
outside l {k} f off = go (eqb l k) refl
  where
    go : (b : Bool) → eqb l k ≡ b → b ≡ false
    go true e = sym (ap inside_of (eqb-true l k e) ∙ here f) ∙ off
    go false e = refl

pub not_inside : (l : ℕ) → (Four l → ⊥) → inside_of l ≡ false
not_inside l off = go (inside_of l) refl
  where
    go : (b : Bool) → inside_of l ≡ b → b ≡ false
    go true e = absurd (off (inside_four l e))
    go false e = refl

-- what stands at a number, after a function
pub nth_of : {A B : Type 0} (f : A → B) (k : ℕ) (a b c d : A) → nth k (f a) (f b) (f c) (f d) ≡ f (nth k a b c d)
nth_of f k a b c d = go (eqb k 1) (eqb k 2) (eqb k 3)
  where
    go : (x y z : Bool) → cond x (f a) (cond y (f b) (cond z (f c) (f d))) ≡ f (cond x a (cond y b (cond z c d)))
    go true y z = refl
    go false true z = refl
    go false false true = refl
    go false false false = refl
