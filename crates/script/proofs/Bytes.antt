-- Pairs of hexadecimal digits, and the bytes that they make in front of a room.
-- Assumes nothing.
use Rattle.std.proofs.Common.{◌≡◌, refl, sym, ap, ap₂, ◌∙◌, ℕ, zero, suc, ◌+◌, ◌*◌, ◌/◌, ◌≤◌, ◌<◌, List, [], ◌∷◌, ◌++◌, length, get_or, set, drop, Some, None, option_map, unwrap_or, arith, length-append, length-drop, drop-drop, zero-add, add-zero, eq-eqb, le-leb, Bool, true, false, cond, replicate, ◌%◌, ◌-◌, drop_of_length-le, append-nil}
use Rattle.std.proofs.Math.Seq.{paste}
use Rattle.std.proofs.lemmas.List.Edits.{paste_more, paste_all}
use Rattle.std.proofs.lemmas.List.Prefix.{at_reads, front_rest}
use Rattle.places.specs.Bytes.{word_at}
use Rattle.script.specs.Digits.{all_hex, pair_of, pairs_of, fits, fitting}
use Rattle.script.specs.Lines.{placed}

pub pairs_length : (s : List ℕ) → length (pairs_of s) ≡ length s / 2
unfolding pairs_of
pairs_length [] = refl
pairs_length (a ∷ []) = refl
pairs_length (a ∷ b ∷ s) = let rest = pairs_length s in omega arith

pair_at_lem : (s : List ℕ) (i : ℕ) → i * 2 + 1 < length s → get_or (pairs_of s) i 0 ≡ pair_of (get_or s (i * 2) 0) (get_or s (i * 2 + 1) 0)
unfolding pairs_of
pair_at_lem [] i h = absurd (omega arith)
pair_at_lem (a ∷ []) i h = absurd (omega arith)
pair_at_lem (a ∷ b ∷ s) zero h = refl
pair_at_lem (a ∷ b ∷ s) (suc i) h =
    let high : suc (suc (i * 2)) ≡ suc i * 2 = omega arith in
    let low : suc (suc (i * 2 + 1)) ≡ suc i * 2 + 1 = omega arith in
    pair_at_lem s i (omega arith)
    ∙ ap₂ (λ (x y : ℕ). pair_of (get_or (a ∷ b ∷ s) x 0) (get_or (a ∷ b ∷ s) y 0)) high low

-- a room with the bytes of the first n pairs in front, and the digits that are left
module _ (s d room left : List ℕ) (n : ℕ) (written : room ≡ paste d 0 (pairs_of s) n) (behind : left ≡ drop (n * 2) s) (big : length s / 2 ≤ length d) where
  pub one_more : (pair rest : List ℕ) → left ≡ pair ++ rest → length pair ≡ 2
      → (set room n (pair_of (get_or pair 0 0) (get_or pair 1 0)) ≡ paste d 0 (pairs_of s) (n + 1)) × ((n + 1) * 2 ≤ length s) × (rest ≡ drop ((n + 1) * 2) s)
  one_more pair rest cut two =
      let e : drop (n * 2) s ≡ pair ++ rest = sym behind ∙ cut in
      let k : length (drop (n * 2) s) ≡ length pair + length rest = ap length e ∙ length-append pair rest in
      let long : length s ≡ n * 2 + 2 + length rest = omega (arith, length-drop (n * 2) s) in
      let high : get_or s (n * 2) 0 ≡ get_or pair 0 0 = simp add-zero at (at_reads 0 s pair (n * 2) rest e 0 (omega arith)) in
      let low = at_reads 0 s pair (n * 2) rest e 1 (omega arith) in
      let here = pair_at_lem s n (omega arith) in
      let v : pair_of (get_or pair 0 0) (get_or pair 1 0) ≡ get_or (pairs_of s) n 0 = ap₂ pair_of (sym high) (sym low) ∙ sym here in
      let count = pairs_length s in
      let more = paste_more d 0 (pairs_of s) n 0 (omega arith) (omega arith) in
      let next : n * 2 + length pair ≡ (n + 1) * 2 = omega arith in (
        ap₂ (λ (r : List ℕ) (x : ℕ). set r n x) written v ∙ ap (λ (k : ℕ). set (paste d 0 (pairs_of s) n) k (get_or (pairs_of s) n 0)) (sym (zero-add n)) ∙ more,
        omega arith,
        sym (front_rest (drop (n * 2) s) pair rest e) ∙ drop-drop (length pair) (n * 2) s ∙ ap (λ (k : ℕ). drop k s) next,
      )

  pub all_written : length left < 2 → n * 2 ≤ length s → room ≡ placed (pairs_of s) d
  all_written short within =
      let k : length left ≡ length s - n * 2 = ap length behind ∙ length-drop (n * 2) s in
      let count = pairs_length s in
      let all : n ≡ length (pairs_of s) = omega arith in
      written ∙ paste_all d 0 (pairs_of s) n all ∙ ap (λ (k : ℕ). pairs_of s ++ drop k d) (zero-add n ∙ all)

-- pairs that fit
pub fit : (n : ℕ) (s : List ℕ) → length s % 2 ≡ 0 → length s / 2 ≤ n → all_hex s ≡ true → fitting n s ≡ Some (pairs_of s)
unfolding fitting fits
fit n s even few hex = rw (eq-eqb _ _ even, le-leb _ _ few, hex)

-- eight digits fill a room of four bytes
filled : (s d : List ℕ) → length s ≡ 8 → length d ≡ 4 → placed (pairs_of s) d ≡ pairs_of s
filled s d h g =
    let count = pairs_length s in
    ap (λ (l : List ℕ). pairs_of s ++ l) (drop_of_length-le d {i = length (pairs_of s)} (omega arith)) ∙ append-nil (pairs_of s)

pub eight : (s bytes : List ℕ) (k : ℕ) → length s ≡ 8 → Some k ≡ option_map (λ (b : List ℕ). length b) (fitting 4 s) → bytes ≡ placed (unwrap_or (fitting 4 s) []) (replicate 4 0)
    → option_map (λ (b : List ℕ). word_at b 0) (fitting 4 s) ≡ Some (word_at bytes 0)
unfolding fitting
eight s bytes k h e w = go (fits 4 s) e w
  where
    go : (b : Bool) → Some k ≡ option_map (λ (b : List ℕ). length b) (cond b (Some (pairs_of s)) None) → bytes ≡ placed (unwrap_or (cond b (Some (pairs_of s)) None) []) (replicate 4 0)
        → option_map (λ (b : List ℕ). word_at b 0) (cond b (Some (pairs_of s)) None) ≡ Some (word_at bytes 0)
    go true e w = ap (λ (b : List ℕ). Some (word_at b 0)) (sym (w ∙ filled s (replicate 4 0) h refl))
    go false e w = cc
