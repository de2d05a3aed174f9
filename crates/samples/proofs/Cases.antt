-- What one sample does, case by case: the tests of 01's sentences from facts on the numbers.
-- Assumes nothing.
use mathlib.Core.Path.{◌≡◌, ap}
use mathlib.Core.Bool.{Bool, true, false, and-false, beq}
use Prim.Native.Nat.{ℕ, ◌+◌, ◌≤◌, ◌<◌, min}
use native.Mathlib.Omega.{arith}
use borrow.Author.Tests.{lt-ltb, le-ltb, le-leb, lt-leb}
use lib.Dec.{eqb}
use Rattle.samples.specs.declared.Middle.{Middle}
use Rattle.samples.specs.declared.Phase.TheVariants.{Waiting, Start, Bits}
use Rattle.samples.specs.declared.Answer.TheVariants.{Frame}
use Rattle.samples.specs.Reader.{Reader}
use Rattle.samples.specs.Answers.{early, late, no_stop, no_sample}
use Rattle.samples.specs.Reading.{gives, goes_on, waited_of, start_of, begun, past_edge, farther_of, bit_of, measured, with_bit, middle_of, next_of, taken_by, step_of}

module _ (n : ℕ) where
  pub more_idle : n < 24 → waited_of n false ≡ Waiting (n + 1)
  unfolding waited_of
  more_idle h = ap Waiting (let e : min 24 (n + 1) ≡ n + 1 = omega arith in e)

  pub idle_enough : 24 ≤ n → waited_of n false ≡ Waiting 24
  unfolding waited_of
  idle_enough h = ap Waiting (let e : min 24 (n + 1) ≡ 24 = omega arith in e)

  pub too_soon : n < 24 → waited_of n true ≡ Waiting 0
  unfolding waited_of
  too_soon h = simp (lt-leb 24 n h)

  pub first_edge : 24 ≤ n → waited_of n true ≡ Start 0
  unfolding waited_of
  first_edge h = simp (le-leb 24 n h)

module _ (d : ℕ) where
  pub start_late : (a : Bool) → 14 < d → start_of d a ≡ gives late
  unfolding start_of
  start_late a h = simp (le-leb 8 d (omega arith), lt-leb d 14 h, le-ltb d 8 (omega arith), lt-ltb 14 d h, and-false)

  pub start_on : d ≤ 14 → start_of d true ≡ goes_on (Start d)
  unfolding start_of
  start_on h = simp (le-ltb 14 d h)

  pub start_early : d < 8 → start_of d false ≡ gives early
  unfolding start_of
  start_early h = simp (lt-leb 8 d h, lt-ltb d 8 h)

  pub start_middle : 8 ≤ d → d ≤ 14 → start_of d false ≡ goes_on (Bits (past_edge 1 begun false))
  unfolding start_of
  start_middle h g = simp (le-leb 8 d h, le-leb d 14 g)

module _ (m : Middle) (d : ℕ) (a : Bool) where
  pub stop_rises : 33 ≤ m.edges → a ≡ true → middle_of m d a ≡ gives no_stop
  unfolding middle_of
  stop_rises h f = simp (le-ltb (m.edges + 1) 34 (omega arith), f)

  pub stop_falls : 33 ≤ m.edges → a ≡ false → middle_of m d a ≡ gives (Frame (measured m.frame d))
  unfolding middle_of
  stop_falls h f = simp (le-ltb (m.edges + 1) 34 (omega arith), f)

  pub next_bit : m.edges < 33 → middle_of m d a ≡ goes_on (Bits (past_edge (m.edges + 1) (with_bit (measured m.frame d) a) a))
  unfolding middle_of
  next_bit h = simp (lt-ltb (m.edges + 1) 34 (omega arith))

module _ (m : Middle) (d : ℕ) (a : Bool) where
  pub too_late : 23 < d → next_of m d a ≡ gives late
  unfolding next_of
  too_late h = simp (lt-leb d 23 h, lt-leb d 14 (omega arith), lt-leb d 17 (omega arith), lt-ltb 23 d h, and-false)

  pub no_edge : d ≤ 23 → beq a m.active ≡ true → next_of m d a ≡ goes_on (Bits (farther_of m d a m.other))
  unfolding next_of
  no_edge h e = simp (e, le-ltb 23 d h)

  pub middle_edge : 18 ≤ d → d ≤ 23 → beq a m.active ≡ false → next_of m d a ≡ middle_of m d a
  unfolding next_of
  middle_edge g h e = simp (e, le-leb 18 d g, le-leb d 23 h)

  pub other_edge : 8 ≤ d → d ≤ 14 → beq a m.active ≡ false → m.other ≡ false → next_of m d a ≡ goes_on (Bits (farther_of m d a true))
  unfolding next_of
  other_edge g h e o = simp (e, lt-leb 18 d (omega arith), o, le-leb 8 d g, le-leb d 14 h)

  -- "Any other edge up to 17 is refusal 1": a second one, one before 8, one past 14
  pub second_other : d ≤ 17 → beq a m.active ≡ false → m.other ≡ true → next_of m d a ≡ gives early
  unfolding next_of
  second_other h e o = simp (e, lt-leb 18 d (omega arith), o, le-leb d 17 h)

  pub before_8 : d < 8 → beq a m.active ≡ false → next_of m d a ≡ gives early
  unfolding next_of
  before_8 h e = simp (e, lt-leb 18 d (omega arith), lt-leb 8 d h, le-leb d 17 (omega arith), and-false)

  pub past_14 : 14 < d → d ≤ 17 → beq a m.active ≡ false → next_of m d a ≡ gives early
  unfolding next_of
  past_14 g h e = simp (e, lt-leb 18 d (omega arith), lt-leb d 14 g, le-leb d 17 h, and-false)

module _ (r : Reader) (s : ℕ) where
  pub bad_sample : 2 ≤ s → step_of r s ≡ gives no_sample
  unfolding step_of
  bad_sample h = simp (le-leb 2 s h)

  pub a_sample : s < 2 → step_of r s ≡ taken_by r.phase (eqb s 1)
  unfolding step_of
  a_sample h = simp (lt-leb 2 s h)

-- a bit is 0 or 1
pub bit_small : (a : Bool) → bit_of a < 2
bit_small true = omega arith
bit_small false = omega arith
