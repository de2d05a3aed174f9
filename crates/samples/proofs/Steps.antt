-- What a step can come to, in any reader: it goes on, or it gives a frame or one of the refusals 1 to 4. What holds of these holds of
-- every step.
-- Assumes nothing.
use mathlib.Core.Bool.{Bool, true, false, cond, not, ◌&&◌, beq}
use Prim.Native.Nat.{ℕ, ◌+◌, ◌≤◌}
use native.Mathlib.Omega.{arith}
use lib.Dec.{leb, ltb, eqb}
use Rattle.word.specs.declared.Frame.{Frame}
use Rattle.refusals.specs.declared.Refusal.{Refusal}
use Rattle.refusals.specs.declared.Refusal.TheVariants.{NoLevel}
use Rattle.refusals.specs.Numbers.{number_of}
use Rattle.samples.specs.declared.Middle.{Middle}
use Rattle.samples.specs.declared.Phase.{Phase}
use Rattle.samples.specs.declared.Phase.TheVariants.{Waiting, Start, Bits}
use Rattle.samples.specs.declared.Answer.{Answer}
use Rattle.samples.specs.declared.Answer.TheVariants as answer
use Rattle.samples.specs.Reader.{Reader, Step}
use Rattle.samples.specs.Reading.{goes_on, gives, within, start_of, middle_of, next_of, taken_by, step_of}

module _ (P : Step → Type 0) (on : (p : Phase) → P (goes_on p)) (frame : (f : Frame) → P (gives (answer.Frame f)))
    (refused : (r : Refusal) → 1 ≤ number_of r → number_of r ≤ 4 → P (gives (answer.Refused r))) where
  either : (b : Bool) (x y : Step) → P x → P y → P (cond b x y)
  either true x y h g = h
  either false x y h g = g

  middle : (m : Middle) (d : ℕ) (a : Bool) → P (middle_of m d a)
  unfolding middle_of
  middle m d a = either (ltb (m.edges + 1) 34) _ _ (on _) (either a _ _ (refused _ (omega arith) (omega arith)) (frame _))

  start : (d : ℕ) (a : Bool) → P (start_of d a)
  unfolding start_of
  start d a =
      either (not a && within 8 14 d) _ _ (on _)
      (either (not a && ltb d 8) _ _ (refused _ (omega arith) (omega arith))
      (either (ltb 14 d) _ _ (refused _ (omega arith) (omega arith)) (on _)))

  next : (m : Middle) (d : ℕ) (a : Bool) → P (next_of m d a)
  unfolding next_of
  next m d a =
      let edge = not (beq a m.active) in
      either (edge && within 18 23 d) _ _ (middle m d a)
      (either (edge && (not m.other && within 8 14 d)) _ _ (on _)
      (either (edge && leb d 17) _ _ (refused _ (omega arith) (omega arith))
      (either (ltb 23 d) _ _ (refused _ (omega arith) (omega arith)) (on _))))

  taken : (p : Phase) (a : Bool) → P (taken_by p a)
  taken (Waiting n) a = on _
  taken (Start d) a = start (d + 1) a
  taken (Bits m) a = next m (m.distance + 1) a

  pub every : (r : Reader) (s : ℕ) → P (step_of r s)
  unfolding step_of
  every r s = either (leb 2 s) _ _ (refused _ (omega arith) (omega arith)) (taken r.phase (eqb s 1))

-- the refusal that an answer is
abbrev pub refusal_in : Answer → Refusal
refusal_in (answer.Refused r) = r
refusal_in answer.Nothing = NoLevel
refusal_in (answer.Frame f) = NoLevel
