-- The written samples by their places: bit n of a frame stands at the samples from 20 * n on; and a room that has them.
-- Assumes nothing.
use mathlib.Core.Path.{◌≡◌, ap, ◌∙◌}
use mathlib.Core.List.{List, [], ◌∷◌, ◌++◌}
use Prim.Native.Nat.{ℕ, zero, suc, ◌+◌, ◌*◌, ◌-◌, ◌/◌, ◌%◌, ◌^◌, ◌≤◌, ◌<◌}
use native.Mathlib.Omega.{arith}
use borrow.Author.Tests.{le-ltb}
use lib.ListN.{length, get_or, drop, replicate, get_or-replicate, get_or-append}
use lib.Seq.{get_or-append-add}
use Rattle.std.proofs.lemmas.Grind.{same_number_lists}
use Rattle.samples.specs.Written.{bit_samples, in_samples, bits_of, frame_bits, samples_of, room_after}
use Rattle.samples.proofs.Lengths.{length_bits, length_frame, length_samples}

bits_at : (k w j : ℕ) → j < k → get_or (bits_of k w) j 0 ≡ w / 2 ^ (k - suc j) % 2
unfolding bits_of
bits_at zero w j h = absurd (omega arith)
bits_at (suc k) w zero h = ap (λ (x : ℕ). w / 2 ^ x % 2) (let e : k ≡ suc k - 1 = omega arith in e)
bits_at (suc k) w (suc j) h = bits_at k w j (omega arith) ∙ ap (λ (x : ℕ). w / 2 ^ x % 2) (let e : k - suc j ≡ suc k - suc (suc j) = omega arith in e)

pub stop_at : (w n : ℕ) → 32 < n → n < 34 → get_or (frame_bits w) n 0 ≡ 1
unfolding bits_of
stop_at w n g h = let e : n ≡ 33 = omega arith in rw e

pub data_at : (w n : ℕ) → 1 ≤ n → n < 33 → get_or (frame_bits w) n 0 ≡ w / 2 ^ (32 - n) % 2
data_at w zero g h = absurd (omega arith)
data_at w (suc j) g h =
    let l : j < length (bits_of 32 w) = omega (arith, length_bits 32 w) in
    get_or-append (bits_of 32 w) (1 ∷ []) 0 j l ∙ bits_at 32 w j (omega arith)

-- sample j of bit n
in_at : (l : List ℕ) (n j : ℕ) → n < length l → j < 20 → get_or (in_samples l) (20 * n + j) 0 ≡ get_or (bit_samples (get_or l n 0)) j 0
unfolding in_samples
in_at [] n j h g = absurd (omega arith)
in_at (b ∷ l) zero j h g =
    ap (λ (x : ℕ). get_or (bit_samples b ++ in_samples l) x 0) (let e : 20 * 0 + j ≡ j = omega arith in e)
    ∙ get_or-append (bit_samples b) (in_samples l) 0 j g
in_at (b ∷ l) (suc n) j h g =
    ap (λ (x : ℕ). get_or (bit_samples b ++ in_samples l) x 0) (let e : 20 * suc n + j ≡ 20 + (20 * n + j) = omega arith in e)
    ∙ get_or-append-add (bit_samples b) (in_samples l) (20 * n + j) 0
    ∙ in_at l n j (omega arith) g

low_half : (b j : ℕ) → j < 10 → get_or (bit_samples b) j 0 ≡ b
low_half b j h = get_or-append (replicate 10 b) (replicate 10 (1 - b)) 0 j h ∙ get_or-replicate 10 j b 0 h

high_half : (b j : ℕ) → 10 ≤ j → j < 20 → get_or (bit_samples b) j 0 ≡ 1 - b
high_half b j h g =
    ap (λ (x : ℕ). get_or (bit_samples b) x 0) (let e : j ≡ 10 + (j - 10) = omega arith in e)
    ∙ get_or-append-add (replicate 10 b) (replicate 10 (1 - b)) (j - 10) 0
    ∙ get_or-replicate 10 (j - 10) (1 - b) 0 (omega arith)

module _ (w i : ℕ) (h : i < 680) where
  sample_at : get_or (samples_of w) i 0 ≡ get_or (bit_samples (get_or (frame_bits w) (i / 20) 0)) (i % 20) 0
  unfolding samples_of
  sample_at =
      ap (λ (x : ℕ). get_or (in_samples (frame_bits w)) x 0) (let e : i ≡ 20 * (i / 20) + i % 20 = omega arith in e)
      ∙ in_at (frame_bits w) (i / 20) (i % 20) (omega (arith, length_frame w)) (omega arith)

  pub sample_low : i % 20 < 10 → get_or (samples_of w) i 0 ≡ get_or (frame_bits w) (i / 20) 0
  sample_low g = sample_at ∙ low_half (get_or (frame_bits w) (i / 20) 0) (i % 20) g

  pub sample_high : 10 ≤ i % 20 → get_or (samples_of w) i 0 ≡ 1 - get_or (frame_bits w) (i / 20) 0
  sample_high g = sample_at ∙ high_half (get_or (frame_bits w) (i / 20) 0) (i % 20) g (omega arith)

-- a room that has them in front
pub filled : (w : ℕ) (room l : List ℕ) → 680 ≤ length room → length l ≡ 680 → ((k : ℕ) → k < 680 → get_or l k 0 ≡ get_or (samples_of w) k 0)
    → l ++ drop 680 room ≡ room_after w room
filled w room l h n e =
    simp (le-ltb (length room) 680 h)
    (ap (λ (x : List ℕ). x ++ drop 680 room) (same_number_lists l (samples_of w) (omega (arith, length_samples w)) (λ k g. e k (omega arith))))
