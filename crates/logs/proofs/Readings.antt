-- Readings are read as they were written, at any place, and the bytes at a place are those of the readings that are read there.
-- Assumes nothing.
use Prim.Native.Nat.{ℕ, zero, suc, ◌+◌, ◌*◌, ◌/◌, ◌%◌, ◌≤◌}
use mathlib.Core.Path.{◌≡◌, refl, sym, ap, ap₂, ◌∙◌}
use mathlib.Core.List.{List, [], ◌∷◌}
use native.Mathlib.Nat.{div-add-mod'}
use native.Mathlib.Omega.{arith}
use lib.ListN.{length, get_or, drop, drop_of_length-le}
use lib.Seq.{drop-cons, drop-drop, get_or-drop}
use Rattle.places.specs.Bytes.{Bytes, pair_at, pair, word_at, quad}
use Rattle.places.proofs.Place.{word_back, pair_again}
use Rattle.logs.specs.Layout.{Reading, reading_at, readings_at}
use Rattle.logs.specs.Written.{bytes_of}

-- a reading's bytes, before the rest
abbrev front : Reading → List ℕ → List ℕ
front r l = quad r.tick (r.line ∷ r.id ∷ pair r.value l)

front_back : (r : Reading) (l : List ℕ) → reading_at (front r l) 0 ≡ r
unfolding reading_at pair_at
front_back r l =
    let tick = word_back [] (r.line ∷ r.id ∷ pair r.value l) r.tick in
    λ i. record { tick = tick i; line = r.line; id = r.id; value = div-add-mod' r.value 256 i }

-- a number or a reading at a place is the first of what is left there
module _ (s : List ℕ) where
  pair_left : (p n : ℕ) → pair_at (drop p s) n ≡ pair_at s (p + n)
  unfolding pair_at
  pair_left p n =
      let next : p + (n + 1) ≡ p + n + 1 = omega arith in
      ap₂ (λ (x y : ℕ). x * 256 + y) (get_or-drop p s n 0) (get_or-drop p s (n + 1) 0 ∙ ap (λ (k : ℕ). get_or s k 0) next)

  reading_left : (p : ℕ) → reading_at (drop p s) 0 ≡ reading_at s p
  unfolding reading_at word_at
  reading_left p =
      let here : p + 0 ≡ p = omega arith in
      let high = pair_left p 0 ∙ ap (pair_at s) here in
      λ i. record {
        tick = high i * 65536 + pair_left p 2 i;
        line = get_or-drop p s 4 0 i;
        id = get_or-drop p s 5 0 i;
        value = pair_left p 6 i;
      }

  pub readings_back : (p : ℕ) (rs : List Reading) → drop p s ≡ bytes_of rs → readings_at s p (length rs) ≡ rs
  unfolding readings_at bytes_of
  readings_back p [] e = refl
  readings_back p (r ∷ rs) e =
      let first : reading_at s p ≡ r = sym (reading_left p) ∙ ap (λ (l : List ℕ). reading_at l 0) e ∙ front_back r (bytes_of rs) in
      let rest : drop (p + 8) s ≡ bytes_of rs = sym (drop-drop 8 p s) ∙ ap (drop 8) e in
      ap₂ (λ (x : Reading) (l : List Reading). x ∷ l) first (readings_back (p + 8) rs rest)

  pub length_readings : (p n : ℕ) → length (readings_at s p n) ≡ n
  unfolding readings_at
  length_readings p zero = refl
  length_readings p (suc n) = ap suc (length_readings (p + 8) n)

-- what is left of bytes at p is what is read there, before what is left at q
module _ (s : List ℕ) (b : Bytes s) where
  one_again : (p q : ℕ) → q ≡ p + 1 → q ≤ length s → drop p s ≡ get_or s p 0 ∷ drop q s
  one_again p q e h =
      let next : suc p ≡ q = omega arith in
      drop-cons s p 0 (omega arith) ∙ ap (λ (k : ℕ). get_or s p 0 ∷ drop k s) next

  pub two_again : (p q : ℕ) → q ≡ p + 2 → q ≤ length s → drop p s ≡ pair (pair_at s p) (drop q s)
  two_again p q e h =
      one_again p (p + 1) refl (omega arith)
      ∙ ap (λ (l : List ℕ). get_or s p 0 ∷ l) (one_again (p + 1) q (omega arith) h)
      ∙ pair_again s p (pair_at s p) (b (p + 1)) refl refl

  four_again : (p q : ℕ) → q ≡ p + 4 → q ≤ length s → drop p s ≡ quad (word_at s p) (drop q s)
  unfolding word_at pair_at
  four_again p q e h =
      let high : pair_at s p ≡ word_at s p / 65536 = omega (arith, b (p + 2), b (p + 2 + 1)) in
      let low : pair_at s (p + 2) ≡ word_at s p % 65536 = omega (arith, b (p + 2), b (p + 2 + 1)) in
      two_again p (p + 2) refl (omega arith)
      ∙ ap₂ (λ (v : ℕ) (l : List ℕ). pair v l) high (two_again (p + 2) q (omega arith) h ∙ ap (λ (v : ℕ). pair v (drop q s)) low)

  reading_again : (p q : ℕ) → q ≡ p + 8 → q ≤ length s → drop p s ≡ front (reading_at s p) (drop q s)
  unfolding reading_at
  reading_again p q e h =
      let value = two_again (p + 6) q (omega arith) h in
      let id = one_again (p + 5) (p + 6) (omega arith) (omega arith) ∙ ap (λ (l : List ℕ). get_or s (p + 5) 0 ∷ l) value in
      let line = one_again (p + 4) (p + 5) (omega arith) (omega arith) ∙ ap (λ (l : List ℕ). get_or s (p + 4) 0 ∷ l) id in
      four_again p (p + 4) refl (omega arith) ∙ ap (λ (l : List ℕ). quad (word_at s p) l) line

  pub readings_again : (p n : ℕ) → length s ≡ p + 8 * n → drop p s ≡ bytes_of (readings_at s p n)
  unfolding readings_at bytes_of
  readings_again p zero e = drop_of_length-le s {i = p} (omega arith)
  readings_again p (suc n) e =
      reading_again p (p + 8) refl (omega arith)
      ∙ ap (λ (l : List ℕ). front (reading_at s p) l) (readings_again (p + 8) n (omega arith))
