-- A word's samples stand behind what stood in front in the room before them.
-- Assumes nothing.
use Rattle.std.proofs.Common.{◌≡◌, ℕ, ◌+◌, ◌-◌, ◌*◌, ◌≤◌, List, ◌++◌, arith, length, take, drop, ap, ◌∙◌, subst, sym, append_assoc, ap₂, add-one, length-take-le, length-drop}
use borrow.Author.Tests.{le-ltb}
use Rattle.std.proofs.lemmas.List.{length-take}
use Rattle.std.proofs.Math.Seq.{take-append-add, take-append_seam}
use borrow.Rule.Slice.PartMut.{put_mid, post_of, mid_of}
use Rattle.samples.specs.Written.{samples_of, room_after}
use Rattle.samples.proofs.Lengths.{length_samples}
use Rattle.places.specs.Bytes.{word_at}
use Rattle.otencode.specs.Encoded.{encoded}

-- of a bytes, n bytes behind them, and more, the first a + n are the first two
front : (a n : ℕ) (p w s : List ℕ) → length p ≡ a → length w ≡ n → take (a + n) (p ++ (w ++ s)) ≡ p ++ w
front a n p w s la ln =
    subst (λ (x : ℕ). take (x + n) (p ++ (w ++ s)) ≡ p ++ w) la
    (subst (λ (y : ℕ). take (length p + y) (p ++ (w ++ s)) ≡ p ++ w) ln
    (take-append-add p (w ++ s) (length w) ∙ ap (λ (l : List ℕ). p ++ l) (take-append_seam w s)))

pub more : (n w : ℕ) (s room part : List ℕ) → n * 680 + 680 ≤ 65280 → length room ≡ 65280
    → part ≡ room_after w (mid_of (n * 680) (65280 - n * 680) room)
    → w ≡ word_at s (n * 4)
    → take (n * 680) room ≡ encoded n s
    → take ((n + 1) * 680) (put_mid (n * 680) (65280 - n * 680) room part) ≡ encoded (n + 1) s
unfolding encoded
more n w s room part fits long is reads so =
    let a = n * 680 in
    let m = mid_of a (65280 - a) room in
    let rest = post_of a (65280 - a) room in
    let within : a ≤ length room = omega arith in
    let tall : 680 ≤ length m = omega (arith, length-take-le {A = ℕ}, length-drop a room, length-take (65280 - a) (drop a room)) in
    let big = le-ltb (length m) 680 tall in
    let filled : part ≡ samples_of w ++ drop 680 m = simp big at is in
    let next : (n + 1) * 680 ≡ a + 680 = omega arith in
    let put : put_mid a (65280 - a) room part ≡ take a room ++ (samples_of w ++ (drop 680 m ++ rest)) =
    ap (λ (l : List ℕ). take a room ++ l) (ap (λ (l : List ℕ). l ++ rest) filled ∙ append_assoc (samples_of w) (drop 680 m) rest) in
    ap₂ take next put
    ∙ front a 680 (take a room) (samples_of w) (drop 680 m ++ rest) (length-take-le a room within) (length_samples w)
    ∙ ap₂ (λ (x y : List ℕ). x ++ y) so (ap samples_of reads)
    ∙ ap (λ (m : ℕ). encoded m s) (sym (add-one n))
