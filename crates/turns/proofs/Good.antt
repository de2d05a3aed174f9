-- What gets past a line is a good word (`GoodOnly`): a thermostat frame is held only if it passes every test, and goes out only if it was held; and
-- a boiler frame that matches is a good word.
-- Assumes nothing.
use Prim.Native.Nat.{ℕ}
use mathlib.Core.Path.{◌≡◌, sym, ap, ◌∙◌}
use mathlib.Core.Logic.{⊎_elim}
use mathlib.Core.Bool.{true}
use mathlib.Core.List.{[], ◌∷◌}
use Rattle.refusals.specs.declared.Refusal.TheVariants.{WrongType}
use Rattle.word.specs.declared.Frame.{Frame}
use Rattle.word.specs.Checks.{must}
use Rattle.word.specs.Frame.{matches_of, good_checks}
use Rattle.word.specs.Fields.{GoodWord}
use Rattle.word.proofs.Clash.{clash}
use Rattle.word.proofs.Checks.{either, front}
use Rattle.word.proofs.Good.{passes_good}
use Rattle.word.proofs.Match.{match_good}
use Rattle.turns.specs.Line.{Line, Step}
use Rattle.turns.specs.Turns.{asks_by, thermostat_of, thermostat_checks, refusal}
use Rattle.turns.specs.Events.{Event, held, refused, note_of, Events}
use Rattle.turns.specs.History.{do_of, line_at, said_at, notes}
use Rattle.turns.specs.Sight.{Came, line_scene}
use Rattle.turns.specs.Talks.{GoodOnly}
use Rattle.turns.proofs.Refusals.{of_thermostat}
use Rattle.turns.proofs.Relay.{relays}

matched_good : (q b : Frame) → matches_of q.word b.word ≡ true → GoodWord b.word
matched_good q b m = passes_good b.word (match_good q.word b.word m)

held_good : (l : Line) (f : Frame) → note_of (thermostat_of l f).said ≡ held → GoodWord f.word
unfolding refusal
held_good l f is =
    ⊎_elim
    (λ x. clash (let z : refused x.0 ≡ held = sym (ap (λ (s : Step). note_of s.said) (of_thermostat l f x.1)) ∙ is in cc))
    (λ p. passes_good f.word (front (good_checks f.word) (must WrongType (asks_by f) ∷ []) p))
    (either (thermostat_checks f))

module _ (h : Events) where
  came_good : (n : ℕ) (f : Frame) → Came h (notes h) n f → GoodWord f.word
  unfolding said_at
  came_good n f c = held_good (line_at h n) f (ap (λ (e : Event). note_of (do_of (line_at h n) e).said) (sym c.frame) ∙ c.is_held)

  pub good_only : GoodOnly (line_scene h (notes h))
  good_only = record {
    held = came_good;
    out = λ n f on. let r = (relays h).unchanged n f on in came_good r.i f r.came;
    answer = λ j q k b a. matched_good q b a.matches;
    passed = λ k b on. let w = (relays h).only_wanted k b on in matched_good w.f b w.answered.answers.matches;
  }
