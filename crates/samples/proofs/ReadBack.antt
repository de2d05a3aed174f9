-- What is written is read: the written samples are a line whose stretches are all of 20 samples, with the other edge, where there is one, at 10.
-- Assumes nothing.
use mathlib.Core.Path.{◌≡◌, refl, sym, ap, ap₂, ◌∙◌, subst}
use mathlib.Core.Bool.{Bool, true, false}
use mathlib.Core.List.{List, [], ◌∷◌, ◌++◌, append_assoc}
use Prim.Native.Nat.{ℕ, zero, suc, ◌+◌, ◌*◌, ◌-◌, ◌/◌, ◌%◌, ◌^◌, ◌≤◌, ◌<◌}
use native.Mathlib.Nat.{pow-suc, div-one, div-div-eq-div-mul, mod-lt, zero-lt-suc}
use native.Mathlib.Omega.{arith}
use lib.ListN.{length, length-append, replicate}
use Rattle.samples.specs.declared.Answer.{Answer}
use Rattle.samples.specs.Reader.{Reader}
use Rattle.samples.specs.Answers.{frame}
use Rattle.samples.specs.Reading.{fresh_of, waited_of, step_of}
use Rattle.samples.specs.Run.{answers_of, after_of, none}
use Rattle.samples.specs.Edges.{level_of, Stretch, plain, crossed, Allowed, AllAllowed, turned, level_after, stretch_samples, stretches_samples}
use Rattle.samples.specs.Edges.{signal_of, levels_of, edge_bits, number_from, Each, FrameOf}
use Rattle.samples.specs.Written.{bit_samples, in_samples, bits_of, samples_of}
use Rattle.samples.proofs.Lengths.{length_bits, length_samples}
use Rattle.samples.proofs.Runs.{answers_append}
use Rattle.samples.proofs.Stretches.{level_last}
use Rattle.samples.proofs.Straight.{steady}
use Rattle.samples.proofs.Tolerant.{given, fresh_again}

-- the stretch to a bit, from the level before it
abbrev stretch_to : Bool → ℕ → Stretch
stretch_to true zero = crossed 10 20
stretch_to false zero = plain 20
stretch_to true (suc b) = plain 20
stretch_to false (suc b) = crossed 10 20

abbrev stretches_to : Bool → List ℕ → List Stretch
stretches_to a [] = []
stretches_to a (b ∷ l) = stretch_to a b ∷ stretches_to (turned a (stretch_to a b)) l

abbrev Binary : List ℕ → Type 0
Binary [] = Unit {0}
Binary (b ∷ l) = (b < 2) × Binary l

allowed : (a : Bool) (l : List ℕ) → AllAllowed (stretches_to a l)
allowed a [] = tt
allowed true (zero ∷ l) = (omega arith, allowed true l)
allowed false (zero ∷ l) = (omega arith, allowed true l)
allowed true (suc b ∷ l) = (omega arith, allowed false l)
allowed false (suc b ∷ l) = (omega arith, allowed false l)

length_stretches : (a : Bool) (l : List ℕ) → length (stretches_to a l) ≡ length l
length_stretches a [] = refl
length_stretches a (b ∷ l) = ap suc (length_stretches (turned a (stretch_to a b)) l)

-- each of 20 samples
twenty : (a : Bool) (l : List ℕ) → Each (λ d. d ≡ 20) (stretches_to a l)
twenty a [] = tt
twenty true (zero ∷ l) = (refl, twenty true l)
twenty false (zero ∷ l) = (refl, twenty true l)
twenty true (suc b ∷ l) = (refl, twenty false l)
twenty false (suc b ∷ l) = (refl, twenty false l)

-- the bits of the stretches to them
bits_of_stretches : (a : Bool) (l : List ℕ) → Binary l → edge_bits a (stretches_to a l) ≡ l
bits_of_stretches a [] h = refl
bits_of_stretches true (zero ∷ l) h = ap (λ (y : List ℕ). 0 ∷ y) (bits_of_stretches true l h.1)
bits_of_stretches false (zero ∷ l) h = ap (λ (y : List ℕ). 0 ∷ y) (bits_of_stretches true l h.1)
bits_of_stretches true (suc zero ∷ l) h = ap (λ (y : List ℕ). 1 ∷ y) (bits_of_stretches false l h.1)
bits_of_stretches false (suc zero ∷ l) h = ap (λ (y : List ℕ). 1 ∷ y) (bits_of_stretches false l h.1)
bits_of_stretches a (suc (suc b) ∷ l) h = absurd (omega (arith, h.0))

-- a bit's samples, moved by the half bit that follows a middle edge
moved : (a : Bool) (b : ℕ) (r : List ℕ) → b < 2
    → replicate 9 (level_of a) ++ (bit_samples b ++ r) ≡ stretch_samples a (stretch_to a b) ++ (replicate 9 (level_of (turned a (stretch_to a b))) ++ r)
moved true zero r h = refl
moved false zero r h = refl
moved true (suc zero) r h = refl
moved false (suc zero) r h = refl
moved a (suc (suc b)) r h = absurd (omega arith)

run_of_bits : (a : Bool) (l : List ℕ) → Binary l
    → replicate 9 (level_of a) ++ in_samples l ≡ stretches_samples a (stretches_to a l) ++ (replicate 9 (level_of (level_after a (stretches_to a l))) ++ [])
unfolding in_samples
run_of_bits a [] h = refl
run_of_bits a (b ∷ l) h =
    let c = turned a (stretch_to a b) in
    moved a b (in_samples l) h.0
    ∙ ap (λ (y : List ℕ). stretch_samples a (stretch_to a b) ++ y) (run_of_bits c l h.1)
    ∙ sym (append_assoc (stretch_samples a (stretch_to a b)) (stretches_samples c (stretches_to c l))
    (replicate 9 (level_of (level_after c (stretches_to c l))) ++ []))

-- the last bit, a 1
stretches_to_last : (a : Bool) (l : List ℕ) → stretches_to a (l ++ (1 ∷ [])) ≡ stretches_to a l ++ (stretch_to (level_after a (stretches_to a l)) 1 ∷ [])
stretches_to_last a [] = refl
stretches_to_last a (b ∷ l) = ap (λ (y : List Stretch). stretch_to a b ∷ y) (stretches_to_last (turned a (stretch_to a b)) l)

falls : (a : Bool) → turned a (stretch_to a 1) ≡ false
falls true = refl
falls false = refl

-- the bits of a word make it again
number_back : (k w : ℕ) → number_from (w / 2 ^ k) (bits_of k w) ≡ w
unfolding bits_of
number_back zero w = div-one w
number_back (suc k) w =
    let q = w / 2 ^ k in
    let e : w / 2 ^ suc k ≡ q / 2 = ap (λ (x : ℕ). w / x) (pow-suc 2 k) ∙ sym (div-div-eq-div-mul w (2 ^ k) 2) in
    let f : w / 2 ^ suc k * 2 + q % 2 ≡ q = omega arith in
    ap (λ (x : ℕ). number_from x (bits_of k w)) f ∙ number_back k w

binary : (k w : ℕ) → Binary (bits_of k w)
unfolding bits_of
binary zero w = tt
binary (suc k) w = (mod-lt (w / 2 ^ k) (zero-lt-suc 1), binary k w)

binary_last : (l : List ℕ) → Binary l → Binary (l ++ (1 ∷ []))
binary_last [] h = (omega arith, tt)
binary_last (b ∷ l) h = (h.0, binary_last l h.1)

idle_9 : answers_of fresh_of (replicate 9 0) ≡ none 9
unfolding answers_of step_of waited_of
idle_9 = refl

last_allowed : (a : Bool) → Allowed (stretch_to a 1)
last_allowed true = omega arith
last_allowed false = omega arith

module _ (w : ℕ) (fits : w < 2 ^ 32) where
  abbrev bits : List ℕ
  bits = bits_of 32 w

  abbrev ways : List Stretch
  ways = stretches_to false bits

  abbrev level : Bool
  level = level_after false ways

  abbrev last : Stretch
  last = stretch_to level 1

  -- the written samples as a line, and the half bit after its last middle edge
  as_line : samples_of w ≡ signal_of 10 (ways ++ (last ∷ [])) ++ replicate 9 0
  unfolding samples_of in_samples
  as_line =
      ap (λ (y : List ℕ). replicate 10 1 ++ (0 ∷ y))
      (run_of_bits false (bits ++ (1 ∷ [])) (binary_last bits (binary 32 w))
      ∙ ap₂ (λ (y : List Stretch) (b : Bool). stretches_samples false y ++ replicate 9 (level_of b)) (stretches_to_last false bits)
      (ap (level_after false) (stretches_to_last false bits) ∙ level_last false ways last ∙ falls level))

  abbrev line : List ℕ
  line = levels_of 0 10 (ways ++ (last ∷ []))

  length_line : length line ≡ 695
  length_line =
      let h : length (samples_of w) ≡ length (signal_of 10 (ways ++ (last ∷ []))) + 9 =
      ap length as_line ∙ length-append (signal_of 10 (ways ++ (last ∷ []))) (replicate 9 0) in
      omega (arith, length_samples w)

  length_32 : length ways ≡ 32
  length_32 = length_stretches false bits ∙ length_bits 32 w

  the_word : number_from 0 (edge_bits false ways) ≡ w
  the_word =
      let z : w / 2 ^ 32 ≡ 0 = omega arith in
      ap (number_from 0) (bits_of_stretches false bits (binary 32 w)) ∙ ap (λ (x : ℕ). number_from x bits) (sym z) ∙ number_back 32 w

  alike : Each (λ d. d ≡ 20) (ways ++ (last ∷ []))
  alike = subst (Each (λ d. d ≡ 20)) (stretches_to_last false bits) (twenty false (bits ++ (1 ∷ [])))

  the_frame : FrameOf ways last (record { word = w; shortest = 20; longest = 20 })
  the_frame = record {
    word = the_word;
    shortest = steady (λ x d. x ≤ d) 20 ways last (omega arith) alike;
    longest = steady (λ x d. d ≤ x) 20 ways last (omega arith) alike;
  }

  read_line : answers_of fresh_of line ≡ none 694 ++ (frame w 20 20 ∷ [])
  read_line =
      let k : length line - 1 ≡ 694 = omega (arith, length_line) in
      given 0 10 ways last (omega arith) (omega arith) (allowed false bits) (last_allowed level) length_32 _ the_frame (falls level)
      ∙ ap (λ (k : ℕ). none k ++ (frame w 20 20 ∷ [])) k

  after_line : after_of fresh_of line ≡ fresh_of
  after_line = fresh_again 0 10 ways last (omega arith) (omega arith) (allowed false bits) (last_allowed level) length_32

  -- 24 idle samples and then the word's: no answer to the first 24 + 670, the frame at the next, its edges 20 apart, and none to the 9 after it
  pub read_back : answers_of fresh_of (replicate 24 0 ++ samples_of w) ≡ none (24 + 670) ++ (frame w 20 20 ∷ none 9)
  read_back =
      ap (λ (y : List ℕ). answers_of fresh_of (replicate 24 0 ++ y)) as_line
      ∙ ap (answers_of fresh_of) (sym (append_assoc (replicate 24 0) (signal_of 10 (ways ++ (last ∷ []))) (replicate 9 0)))
      ∙ answers_append fresh_of line (replicate 9 0)
      ∙ ap₂ (λ (y z : List Answer). y ++ z) read_line (ap (λ (q : Reader). answers_of q (replicate 9 0)) after_line ∙ idle_9)
      ∙ append_assoc (none 694) (frame w 20 20 ∷ []) (none 9)
