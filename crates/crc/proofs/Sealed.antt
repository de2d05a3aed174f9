-- A message with its checksum appended passes, and what passes ends in its checksum.
-- Assumes nothing.
use mathlib.Core.Path.{◌≡◌, refl, sym, ap, ap₂, ◌∙◌}
use mathlib.Core.Bool.{true, ◌&&◌}
use mathlib.Core.List.{List, [], ◌∷◌, ◌++◌}
use Prim.Native.Nat.{ℕ, suc, ◌+◌, ◌-◌, ◌/◌, ◌%◌, ◌≤◌}
use native.Mathlib.Omega.{arith}
use native.Mathlib.Numerals.{add-one}
use borrow.Author.Tests.{le-leb, eq-eqb, leb-true, eqb-true}
use lib.Dec.{eqb, leb}
use lib.ListN.{length, get_or, take, drop, length-append, drop_of_length-le, take-append-drop}
use lib.Seq.{get_or-append_seam, get_or-append-add, take-append_seam, drop-cons}
use Rattle.crc.specs.Crc.{crc_of, low_first, sealed, unsealed, passes_of}
use Rattle.word.proofs.Match.{both}

-- the body, and its checksum behind it, low byte first
pub sealed_is : (b : List ℕ) → sealed b ≡ b ++ (crc_of b % 256 ∷ crc_of b / 256 ∷ [])
unfolding sealed
sealed_is b = refl

-- what was sealed is the body again
pub unsealed_sealed : (b : List ℕ) → unsealed (sealed b) ≡ b
unfolding sealed
unsealed_sealed b =
    let e : length (sealed b) - 2 ≡ length b = omega (arith, length-append b (low_first (crc_of b))) in
    ap (λ (n : ℕ). take n (sealed b)) e ∙ take-append_seam b (low_first (crc_of b))

pub length_sealed : (b : List ℕ) → length (sealed b) ≡ length b + 2
unfolding sealed
length_sealed b = length-append b (low_first (crc_of b))

-- "a message with its checksum appended passes"
pub sealed_passes : (b : List ℕ) → passes_of (sealed b) ≡ true
unfolding passes_of sealed
sealed_passes b =
    let s = sealed b in
    let e : length s - 2 ≡ length b = omega (arith, length_sealed b) in
    rw (le-leb 2 (length s) (omega (arith, length_sealed b)), unsealed_sealed b, e, low b, high b)
  where
    low : (b : List ℕ) → eqb (get_or (sealed b) (length b) 0) (crc_of b % 256) ≡ true
    low b = eq-eqb _ _ (get_or-append_seam b (crc_of b % 256) (crc_of b / 256 ∷ []) 0)

    high : (b : List ℕ) → eqb (get_or (sealed b) (length b + 1) 0) (crc_of b / 256) ≡ true
    high b = eq-eqb _ _ (get_or-append-add b (low_first (crc_of b)) 1 0)

-- the last two of a list that has two
pub ends : (s : List ℕ) → 2 ≤ length s → s ≡ unsealed s ++ (get_or s (length s - 2) 0 ∷ get_or s (length s - 2 + 1) 0 ∷ [])
ends s h =
    let n = length s - 2 in
    let one = get_or s n 0 in
    let two = get_or s (n + 1) 0 in
    let last : drop (n + 1) s ≡ two ∷ [] =
    drop-cons s (n + 1) 0 (omega arith) ∙ ap (λ (r : List ℕ). two ∷ r) (drop_of_length-le s {i = suc (n + 1)} (omega arith)) in
    let both : drop n s ≡ one ∷ two ∷ [] =
    drop-cons s n 0 (omega arith) ∙ ap (λ (k : ℕ). one ∷ drop k s) (sym (add-one n)) ∙ ap (λ (r : List ℕ). one ∷ r) last in
    sym (take-append-drop n s) ∙ ap (λ (r : List ℕ). take n s ++ r) both

-- what passes ends in its checksum: it is its own body, sealed
pub passes_sealed : (s : List ℕ) → passes_of s ≡ true → sealed (unsealed s) ≡ s
unfolding passes_of sealed
passes_sealed s p =
    let n = length s - 2 in
    let c = crc_of (unsealed s) in
    let long = both (leb 2 (length s)) (eqb (get_or s n 0) (c % 256) && eqb (get_or s (n + 1) 0) (c / 256)) p in
    let bytes = both (eqb (get_or s n 0) (c % 256)) (eqb (get_or s (n + 1) 0) (c / 256)) long.1 in
    ap₂ (λ (x y : ℕ). unsealed s ++ (x ∷ y ∷ [])) (sym (eqb-true _ _ bytes.0)) (sym (eqb-true _ _ bytes.1))
    ∙ sym (ends s (leb-true 2 (length s) long.0))
