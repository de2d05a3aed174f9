-- How many there are: a word's bits, a frame's, and the 680 samples.
-- Assumes nothing.
use mathlib.Core.Path.{◌≡◌, refl, ap, ◌∙◌}
use mathlib.Core.List.{List, [], ◌∷◌, ◌++◌}
use Prim.Native.Nat.{ℕ, zero, suc, ◌+◌, ◌-◌, ◌*◌, ◌<◌}
use native.Mathlib.Omega.{arith}
use lib.Seq.{drop-append-add}
use lib.ListN.{length, length-append, take, drop, get_or, replicate}
use Rattle.samples.specs.Written.{bit_samples, in_samples, bits_of, frame_bits, samples_of}

pub length_bits : (k w : ℕ) → length (bits_of k w) ≡ k
unfolding bits_of
length_bits zero w = refl
length_bits (suc k) w = ap suc (length_bits k w)

length_in : (l : List ℕ) → length (in_samples l) ≡ 20 * length l
unfolding in_samples
length_in [] = refl
length_in (b ∷ l) = let h : length (in_samples l) ≡ 20 * length l = length_in l in omega arith

pub length_frame : (w : ℕ) → length (frame_bits w) ≡ 34
length_frame w = let h : length (bits_of 32 w ++ (1 ∷ [])) ≡ length (bits_of 32 w) + 1 = length-append (bits_of 32 w) (1 ∷ []) in omega (arith, length_bits 32 w)

pub length_samples : (w : ℕ) → length (samples_of w) ≡ 680
unfolding samples_of
length_samples w = omega (arith, length_in (frame_bits w), length_frame w)

-- "A bit lasts 20 samples when written. Bit 1 is active then idle, bit 0 idle then active": ten of each
in_place : (l : List ℕ) (i : ℕ) → i < length l → take 20 (drop (i * 20) (in_samples l)) ≡ replicate 10 (get_or l i 0) ++ replicate 10 (1 - get_or l i 0)
unfolding in_samples
in_place [] i h = absurd (omega arith)
in_place (b ∷ l) zero h = refl
in_place (b ∷ l) (suc i) h =
    let e : suc i * 20 ≡ 20 + i * 20 = omega arith in
    ap (λ (n : ℕ). take 20 (drop n (in_samples (b ∷ l)))) e ∙ ap (take 20) (drop-append-add (bit_samples b) (in_samples l) (i * 20)) ∙ in_place l i (omega arith)

pub bit_lasts : (w i : ℕ) → i < 34 → take 20 (drop (i * 20) (samples_of w)) ≡ replicate 10 (get_or (frame_bits w) i 0) ++ replicate 10 (1 - get_or (frame_bits w) i 0)
unfolding samples_of
bit_lasts w i h = in_place (frame_bits w) i (omega (arith, length_frame w))
