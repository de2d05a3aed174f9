-- Laws of the parity: flipping any one bit turns even into odd and odd into even, and the bit that `evened` adds makes a word even.
-- Assumes nothing.
use mathlib.Core.Path.{◌≡◌, refl, ap, ap₂, ◌∙◌}
use Prim.Native.Nat.{ℕ, zero, suc, ◌+◌, ◌*◌, ◌/◌, ◌%◌, ◌^◌, ◌<◌}
use native.Mathlib.Nat.{add_comm, mod-lt, zero-lt-suc, pow-suc, mul-div_cancel, mul-mod_left}
use native.Mathlib.Omega.{arith}
use mathlib.Core.Bool.{Bool, true, false, not}
use borrow.Author.Tests.{eqb-true, eqb-false, eq-eqb, ne_eqb}
use lib.Dec.{eqb}
use lib.Arith.{digits_div, digits_mod}
use lib.Bits.{bit_xor, differ, xor_step, xor_zero_r}
use lib.Count.{ones, ones_step, ones_cat}
use Rattle.word.specs.Frame.{even_of, flip, evened}

pub two_pos : 0 < 2
two_pos = zero-lt-suc 1

pub differ_lt : (x y : ℕ) → x < 2 → y < 2 → differ x y < 2
differ_lt zero y a b = b
differ_lt (suc zero) zero a b = a
differ_lt (suc zero) (suc zero) a b = two_pos
differ_lt (suc (suc x)) y a b = omega arith
differ_lt (suc zero) (suc (suc y)) a b = omega arith

differ_one : (x : ℕ) → x < 2 → differ x 1 + x ≡ 1
differ_one zero h = refl
differ_one (suc zero) h = refl
differ_one (suc (suc x)) h = omega arith

differ_none : (x : ℕ) → differ x 0 ≡ x
differ_none zero = refl
differ_none (suc x) = refl

-- a digit below the rest
ones_digit : (a d : ℕ) → d < 2 → ones (a * 2 + d) ≡ d + ones a
ones_digit a d h = ones_step (a * 2 + d) ∙ ap₂ (λ (x y : ℕ). x + ones y) (digits_mod a h) (digits_div a h)

-- the ones of a word and of the word with one bit flipped make an odd number
pub flipped : (k w : ℕ) → (ones (flip k w) + ones w) % 2 ≡ 1
flipped zero w =
    let d = differ (w % 2) 1 in
    let m : w % 2 < 2 = mod-lt w two_pos in
    let e : ones (flip 0 w) ≡ d + ones (w / 2) =
    ap ones (xor_step w 1 ∙ ap (λ (x : ℕ). x * 2 + d) (xor_zero_r (w / 2))) ∙ ones_digit (w / 2) d (differ_lt (w % 2) 1 m (mod-lt 1 two_pos)) in
    let s : ones w ≡ w % 2 + ones (w / 2) = ones_step w in
    let o : d + w % 2 ≡ 1 = differ_one (w % 2) m in
    omega arith
flipped (suc k) w =
    let r = ones (flip k (w / 2)) in
    let m : w % 2 < 2 = mod-lt w two_pos in
    let e : ones (flip (suc k) w) ≡ w % 2 + r =
    ap ones
    (xor_step w (2 ^ suc k)
    ∙ ap₂ (λ (x y : ℕ). bit_xor (w / 2) x * 2 + differ (w % 2) y)
    (ap (λ (x : ℕ). x / 2) (pow-suc 2 k) ∙ mul-div_cancel (2 ^ k) two_pos)
    (ap (λ (x : ℕ). x % 2) (pow-suc 2 k) ∙ mul-mod_left (2 ^ k) 2)
    ∙ ap (λ (x : ℕ). bit_xor (w / 2) (2 ^ k) * 2 + x) (differ_none (w % 2)))
    ∙ ones_digit (flip k (w / 2)) (w % 2) m in
    let s : ones w ≡ w % 2 + ones (w / 2) = ones_step w in
    let ih : (r + ones (w / 2)) % 2 ≡ 1 = flipped k (w / 2) in
    omega arith

-- every word, any bit: even turns into odd, and odd into even
pub flip_parity : (k w : ℕ) → even_of (flip k w) ≡ not (even_of w)
unfolding even_of
flip_parity k w = go (eqb (ones w % 2) 0) refl
  where
    go : (e : Bool) → eqb (ones w % 2) 0 ≡ e → eqb (ones (flip k w) % 2) 0 ≡ not e
    go true e = let even = eqb-true (ones w % 2) 0 e in ne_eqb (ones (flip k w) % 2) 0 (λ z. omega (arith, flipped k w))
    go false e = let odd = eqb-false (ones w % 2) 0 e in eq-eqb (ones (flip k w) % 2) 0 (omega (arith, flipped k w))

-- above a number below 2 ^ 31 the parity bit is a bit of its own
one_bit : (r : ℕ) → r < 2 → ones r ≡ r
unfolding ones
one_bit zero h = refl
one_bit (suc zero) h = refl
one_bit (suc (suc r)) h = omega arith

pub above : (p b : ℕ) → p < 2 → b < 2 ^ 31 → ones (b + p * 2 ^ 31) ≡ p + ones b
above p b m h = ap ones (add_comm b (p * 2 ^ 31)) ∙ ones_cat 31 p b h ∙ ap (λ (x : ℕ). x + ones b) (one_bit p m)

pub evened_even : (b : ℕ) → b < 2 ^ 31 → even_of (evened b) ≡ true
unfolding even_of
evened_even b h =
    let p = ones b % 2 in
    let e = above p b (mod-lt (ones b) two_pos) h in
    eq-eqb (ones (evened b) % 2) 0 (omega arith)
