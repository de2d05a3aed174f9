-- A boiler frame is refused by the first of its own tests that fails; and where all of them pass, it is judged by the talk.
-- Assumes nothing.
use Rattle.std.specs.Prelude.{Ok, Err}
use mathlib.Core.Path.{◌≡◌, sym, ◌∙◌, subst}
use mathlib.Core.Logic.{⊎_elim}
use mathlib.Core.List.{List}
use Rattle.refusals.specs.declared.Refusal.{Refusal}
use Rattle.word.specs.declared.Frame.{Frame}
use Rattle.word.specs.Checks.{Check, judged, Fails, Passes}
use Rattle.word.proofs.Checks.{refuses, goes_on, either, sooner}
use Rattle.word.proofs.Clash.{clash}
use Rattle.turns.specs.Line.{Line}
use Rattle.turns.specs.Turns.{refusal, frame_checks, answers_by, talk_checks, heard_of, boiler_of}
use Rattle.turns.proofs.Refusals.{of_boiler, boiler_heard}

-- the tests' answer as a Result says which of them fails, or that none does
module _ {N : Type 0} (cs : List (Check N)) where
  fails : (n : N) → judged cs (λ m. Err m) (Ok (tt {0})) ≡ Err n → Fails cs n
  fails n e =
      ⊎_elim
      (λ x. let m : Err x.0 ≡ Err n = sym (refuses (λ m. Err m) (Ok (tt {0})) x.1) ∙ e in
      let same : x.0 ≡ n = cc in subst (Fails cs) same x.1)
      (λ p. clash (let z : (Ok (tt {0})) ≡ Err n = sym (goes_on (λ m. Err m) (Ok (tt {0})) p) ∙ e in cc))
      (either cs)

  passes : judged cs (λ m. Err m) (Ok (tt {0})) ≡ Ok (tt {0}) → Passes cs
  passes e =
      ⊎_elim
      (λ x. clash (let z : Err x.0 ≡ (Ok (tt {0})) = sym (refuses (λ m. Err m) (Ok (tt {0})) x.1) ∙ e in cc))
      (λ p. p)
      (either cs)

module _ (l : Line) (f : Frame) where
  pub sound_err : (r : Refusal) → judged (frame_checks f (answers_by f)) (λ m. Err m) (Ok (tt {0})) ≡ Err r → boiler_of l f ≡ refusal l r
  sound_err r e = of_boiler l f (sooner (talk_checks l.turn f) (fails (frame_checks f (answers_by f)) r e))

  pub sound_ok : judged (frame_checks f (answers_by f)) (λ m. Err m) (Ok (tt {0})) ≡ Ok (tt {0}) → boiler_of l f ≡ heard_of l f
  sound_ok e = boiler_heard l f (passes (frame_checks f (answers_by f)) e)
