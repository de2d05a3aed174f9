-- "Spare bits are written 0, not looked at when read": a word with other spare bits has the same type, id and value. (Written 0: `written` of
-- Fields.) And "flips bits in pairs" (02, Ask 1): a word whose spare bits are zero has one set when one of them and any other bit are flipped,
-- and its number of ones stays even or odd.
-- Assumes nothing.
use mathlib.Core.Path.{◌≡◌, refl, sym, ap, ◌∙◌}
use mathlib.Core.Bool.{Bool, true, false, not, ◌||◌}
use Prim.Native.Nat.{ℕ, zero, suc, ◌/◌, ◌%◌, ◌^◌, ◌<◌}
use native.Mathlib.Omega.{arith}
use lib.Bits.{bit_xor, xor_zero_l, xor_shr, xor_mod}
use lib.Dec.{T, eqb, ltb}
use borrow.Author.Tests.{eq-eqb, ne_eqb, le-ltb}
use Rattle.word.specs.Frame.{spare_of, even_of, flip}
use Rattle.word.specs.Fields.{Fields, Fit, word_of, respared, Alike, SparePair}
use Rattle.word.proofs.Fields.{fields}
use Rattle.word.proofs.Parity.{flip_parity}
use Rattle.word.proofs.Table.{below, under}

respared_fits : (f : Fields) (s : ℕ) → Fit f → s < 16 → Fit (respared s f)
respared_fits f s h g =
    record { one_bit = h.one_bit; three_bits = h.three_bits; four_bits = g; a_byte = h.a_byte; two_bytes = h.two_bytes }

pub spare_unread : (f : Fields) (s : ℕ) → Fit f → s < 16 → Alike (word_of (respared s f)) (word_of f)
spare_unread f s h g =
    let r = fields f h in
    let q = fields (respared s f) (respared_fits f s h g) in
    record { type = q.type ∙ sym r.type; id = q.id ∙ sym r.id; value = q.value ∙ sym r.value }

-- the spare bits of a word with a bit flipped
flipped_spare : (k w : ℕ) → spare_of (flip k w) ≡ bit_xor (spare_of w) (spare_of (2 ^ k))
unfolding spare_of
flipped_spare k w = ap (λ (x : ℕ). x % 2 ^ 4) (xor_shr w (2 ^ k) 24) ∙ xor_mod (w / 2 ^ 24) (2 ^ k / 2 ^ 24) 4

-- one test of each spare bit with each of the 32: two that differ leave one set
abbrev leaves : ℕ → ℕ → Bool
leaves k j = ltb k 24 || (eqb j k || not (eqb (bit_xor (spare_of (2 ^ k)) (spare_of (2 ^ j))) 0))

tested : T (below 28 (λ k. below 32 (leaves k)))
unfolding spare_of
tested = tt

unclear : (k j w : ℕ) → SparePair k j → spare_of w ≡ 0 → spare_of (flip j (flip k w)) ≡ 0 → ⊥
unclear k j w p clear e =
    let one : spare_of (flip k w) ≡ spare_of (2 ^ k) = flipped_spare k w ∙ ap (λ (x : ℕ). bit_xor x (spare_of (2 ^ k))) clear ∙ xor_zero_l (spare_of (2 ^ k)) in
    let two : bit_xor (spare_of (2 ^ k)) (spare_of (2 ^ j)) ≡ 0 = ap (λ (x : ℕ). bit_xor x (spare_of (2 ^ j))) (sym one) ∙ sym (flipped_spare j (flip k w)) ∙ e in
    let t : T (leaves k j) = under 32 (leaves k) (under 28 (λ x. below 32 (leaves x)) tested k (omega (arith, p.upto))) j p.bit in
    rw (le-ltb k 24 p.from, ne_eqb j k p.other, eq-eqb (bit_xor (spare_of (2 ^ k)) (spare_of (2 ^ j))) 0 two) at t

pub pair_spare : (k j w : ℕ) → SparePair k j → spare_of w ≡ 0 → 0 < spare_of (flip j (flip k w))
pair_spare k j w p clear = above (spare_of (flip j (flip k w))) (unclear k j w p clear)
  where
    above : (n : ℕ) → (n ≡ 0 → ⊥) → 0 < n
    above zero off = absurd (off refl)
    above (suc n) off = omega arith

pub pair_even : (k j w : ℕ) → even_of (flip j (flip k w)) ≡ even_of w
pair_even k j w = flip_parity j (flip k w) ∙ ap not (flip_parity k w) ∙ twice (even_of w)
  where
    twice : (b : Bool) → not (not b) ≡ b
    twice true = refl
    twice false = refl
