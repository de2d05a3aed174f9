-- What can be told apart: two numbers, a function that is served, a body that is written out by 01's table.
-- Assumes nothing.
use Prim.Native.Nat.{ℕ, ◌≤◌, ◌<◌}
use mathlib.Core.Path.{◌≡◌, refl, sym, subst}
use mathlib.Core.Logic.{◌⊎◌, inl, inr}
use mathlib.Core.Bool.{Bool, true, false}
use mathlib.Core.List.{List}
use borrow.Author.Tests.{eqb-true, eqb-false, leb-true, leb-false}
use lib.Dec.{eqb, leb}
use Rattle.word.proofs.Clash.{clash}
use Rattle.modbus.specs.Shape.{unit_of, function_of, formed_of}
use Rattle.modbus.specs.Becomes.{Bytes, Serves, Spelled}
use Rattle.modbus.specs.Becomes as be
use Rattle.modbus.proofs.Formed.{form, formed}
use Rattle.modbus.proofs.Spelled.{out, right}

pub equal : (m n : ℕ) → (m ≡ n) ⊎ (m ≡ n → ⊥)
equal m n = go (eqb m n) refl
  where
    go : (t : Bool) → eqb m n ≡ t → (m ≡ n) ⊎ (m ≡ n → ⊥)
    go true e = inl (eqb-true m n e)
    go false e = inr (eqb-false m n e)

pub upto : (m n : ℕ) → (m ≤ n) ⊎ (n < m)
upto m n = go (leb m n) refl
  where
    go : (t : Bool) → leb m n ≡ t → (m ≤ n) ⊎ (n < m)
    go true e = inl (leb-true m n e)
    go false e = inr (leb-false m n e)

-- a function that is served, or not
none_of : {u n : ℕ} → Serves u n → (n ≡ 0x03 → ⊥) → (n ≡ 0x04 → ⊥) → (n ≡ 0x06 → ⊥) → (n ≡ 0x10 → ⊥) → ((u ≡ 5 → ⊥) → n ≡ 0x17 → ⊥) →
    ((u ≡ 5 → ⊥) → n ≡ 0x41 → ⊥) → ⊥
none_of be.three a b c d e f = a refl
none_of be.four a b c d e f = b refl
none_of be.six a b c d e f = c refl
none_of be.ten a b c d e f = d refl
none_of (be.seventeen other) a b c d e f = e other refl
none_of (be.forty_one other) a b c d e f = f other refl

pub served : (u f : ℕ) → Serves u f ⊎ (Serves u f → ⊥)
served u f =
    step (equal f 0x03) be.three (λ a. step (equal f 0x04) be.four (λ b. step (equal f 0x06) be.six (λ c. step (equal f 0x10) be.ten (λ d. lines a b c d (equal u 5)))))
  where
    step : {n : ℕ} → (f ≡ n) ⊎ (f ≡ n → ⊥) → Serves u n → ((f ≡ n → ⊥) → Serves u f ⊎ (Serves u f → ⊥)) → Serves u f ⊎ (Serves u f → ⊥)
    step (inl e) s rest = inl (subst (λ (k : ℕ). Serves u k) (sym e) s)
    step (inr other) s rest = rest other

    lines : (f ≡ 0x03 → ⊥) → (f ≡ 0x04 → ⊥) → (f ≡ 0x06 → ⊥) → (f ≡ 0x10 → ⊥) → (u ≡ 5) ⊎ (u ≡ 5 → ⊥) → Serves u f ⊎ (Serves u f → ⊥)
    lines a b c d (inl five) = inr (λ s. none_of s a b c d (λ other. absurd (other five)) (λ other. absurd (other five)))
    lines a b c d (inr other) =
        step (equal f 0x17) (be.seventeen other)
        (λ e. step (equal f 0x41) (be.forty_one other) (λ g. inr (λ s. none_of s a b c d (λ n. e) (λ n. g))))

-- a body that is written out by the table, or not
pub spelled_out : (b : List ℕ) → Bytes b → Serves (unit_of b) (function_of b) →
    Spelled (unit_of b) b (function_of b) ⊎ (Spelled (unit_of b) b (function_of b) → ⊥)
spelled_out b h s = go (formed_of (function_of b) b) refl
  where
    go : (t : Bool) → formed_of (function_of b) b ≡ t → Spelled (unit_of b) b (function_of b) ⊎ (Spelled (unit_of b) b (function_of b) → ⊥)
    go true e = inl (out b h refl (form b s e))
    go false e = inr (λ w. let other = formed b (right w) in clash cc)
