-- The lines of a block that comes in two parts, and of one that is read byte by byte.
-- Assumes nothing.
use mathlib.Core.Path.{◌≡◌, refl, sym, ap, ap₂, ◌∙◌}
use mathlib.Core.List.{List, [], ◌∷◌, ◌++◌, append_assoc}
use Prim.Native.Nat.{ℕ, ◌+◌, ◌<◌}
use lib.ListN.{length, drop, get_or}
use Rattle.print.proofs.Added.{left_from}
use Rattle.otlist.specs.Words.{word_after, count_after, line_if, lines_in, last_word, last_count}

-- a block that comes in two parts gives the same lines, and leaves the same behind
pub cut : (w n : ℕ) (s t : List ℕ) → lines_in w n (s ++ t) ≡ lines_in w n s ++ lines_in (last_word w s) (last_count n s) t
unfolding lines_in last_word last_count
cut w n [] t = refl
cut w n (b ∷ s) t =
    ap (λ (x : List (List ℕ)). line_if (count_after n) (word_after w b) ++ x) (cut (word_after w b) (count_after n) s t)
    ∙ sym (append_assoc (line_if (count_after n) (word_after w b)) _ _)

pub cut_count : (n : ℕ) (s t : List ℕ) → last_count n (s ++ t) ≡ last_count (last_count n s) t
unfolding last_count
cut_count n [] t = refl
cut_count n (b ∷ s) t = cut_count (count_after n) s t

-- a block byte by byte, for `take`
module _ (s : List ℕ) (i : ℕ) (h : i < length s) where
  pub word_more : (w v : ℕ) → v ≡ word_after w (get_or s i 0) → last_word v (drop (i + 1) s) ≡ last_word w (drop i s)
  unfolding last_word
  word_more w v e = ap (λ (x : ℕ). last_word x (drop (i + 1) s)) e ∙ sym (ap (last_word w) (left_from s i h))

  pub count_more : (n m : ℕ) → m ≡ count_after n → last_count m (drop (i + 1) s) ≡ last_count n (drop i s)
  unfolding last_count
  count_more n m e = ap (λ (x : ℕ). last_count x (drop (i + 1) s)) e ∙ sym (ap (last_count n) (left_from s i h))

  pub rest_more : (w v n m : ℕ) → v ≡ word_after w (get_or s i 0) → m ≡ count_after n →
      line_if m v ++ lines_in v m (drop (i + 1) s) ≡ lines_in w n (drop i s)
  unfolding lines_in
  rest_more w v n m ev em =
      ap₂ (λ (x y : ℕ). line_if y x ++ lines_in x y (drop (i + 1) s)) ev em ∙ sym (ap (lines_in w n) (left_from s i h))
