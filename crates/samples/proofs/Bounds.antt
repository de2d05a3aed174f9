-- Samples past 01's distances, wherever in a frame, are refused at that sample with 01's number; and one of 2 to 255 is refusal 4 in
-- every state.
-- Assumes nothing.
use mathlib.Core.Path.{◌≡◌, refl, sym, ap, ◌∙◌, subst}
use mathlib.Core.Bool.{Bool, true, false, not, not-not}
use mathlib.Core.List.{List, [], ◌∷◌, ◌++◌, append_assoc}
use Prim.Native.Nat.{ℕ, ◌+◌, ◌-◌, ◌≤◌}
use native.Mathlib.Omega.{arith}
use lib.ListN.{length, length-append, replicate}
use Rattle.refusals.specs.declared.Refusal.{Refusal}
use Rattle.refusals.proofs.Names.{one_refusal}
use Rattle.samples.specs.declared.Phase.TheVariants.{Waiting}
use Rattle.samples.specs.declared.Answer.{Answer}
use Rattle.samples.specs.declared.Answer.TheVariants.{Refused}
use Rattle.samples.specs.Reader.{Reader}
use Rattle.samples.specs.Answers.{number_of, WithRefusal, early, late, no_stop, no_sample}
use Rattle.samples.specs.Reading.{fresh_of, gives, step_of}
use Rattle.samples.specs.Run.{none, Last}
use Rattle.samples.specs.Edges.{level_of, Stretch, plain, crossed, turned, level_after, leg_samples, levels_of}
use Rattle.samples.specs.Wrong.{Kept, Wrong}
use Rattle.samples.specs.Wrong as wrong
use Rattle.samples.proofs.Steps.{refusal_in}
use Rattle.samples.proofs.Cases.{a_sample, bad_sample}
use Rattle.samples.proofs.Cases as cases
use Rattle.samples.proofs.Runs.{Quiet, join, ending}
use Rattle.samples.proofs.Stretches.{mid, at_early, at_gap, at_second, at_24, starting, Open, leg_end, idle, first_half, quiet_leg}
use Rattle.samples.proofs.Stretches.{line_last, so_far}
use Rattle.samples.proofs.Tolerant.{rising}

ends : {q : Reader} (a : List ℕ) (s : ℕ) (x : Answer) → Quiet fresh_of a q → step_of q s ≡ gives x → Last (a ++ (s ∷ [])) x
ends a s x h e =
    let n : length a ≡ length (a ++ (s ∷ [])) - 1 = let g = length-append a (s ∷ []) in omega arith in
    ending s x h e ∙ ap (λ (k : ℕ). none k ++ (x ∷ [])) n

-- in the start bit's first half: s active samples, and one more of this level
in_start : (n s : ℕ) (b : Bool) (x : Answer) → 1 ≤ s → s ≤ 15 → step_of (starting (s - 1)) (level_of b) ≡ gives x
    → Last (replicate (24 + n) 0 ++ (replicate s 1 ++ (level_of b ∷ []))) x
in_start n s b x g h e =
    rw append_assoc at (ends (replicate (24 + n) 0 ++ replicate s 1) (level_of b) x (join (idle n) (first_half s g h)) e)

start_any_late : (b : Bool) → step_of (starting 14) (level_of b) ≡ gives late
start_any_late true = a_sample (starting 14) 1 (omega arith) ∙ cases.start_late 15 true (omega arith)
start_any_late false = a_sample (starting 14) 0 (omega arith) ∙ cases.start_late 15 false (omega arith)

-- past a middle edge, the first to the 33rd, one more sample x
module _ (n s : ℕ) (l : List Stretch) (k : Kept s l) (t : Stretch) (o : Open t) (y : Answer) where
  abbrev a : Bool
  a = level_after false l

  abbrev reader : Reader
  reader = leg_end (1 + length l) (so_far l) a t

  past_middle : (x : ℕ) → step_of reader x ≡ gives y → Last (levels_of n s l ++ (leg_samples a t ++ (x ∷ []))) y
  past_middle x e =
      rw (append_assoc (levels_of n s l) (leg_samples a t) (x ∷ [])) at
      (ends (levels_of n s l ++ leg_samples a t) x y (quiet_leg n s l k.from k.upto k.allowed k.few t o) e)

  -- an edge
  at_edge : step_of reader (level_of (turned a t)) ≡ gives y → Last (levels_of n s (l ++ (t ∷ []))) y
  at_edge e = rw (sym (line_last n s l t)) at (past_middle (level_of (turned a t)) e)

pub refused : (l : List ℕ) (k : ℕ) → Wrong l k → WithRefusal k (Last l)
refused _ _ (wrong.start_early n s g h) = (
  refusal_in early,
  in_start n s false early g (omega arith) (a_sample (starting (s - 1)) 0 (omega arith) ∙ cases.start_early (s - 1 + 1) (omega arith)),
  refl,
)
refused _ _ (wrong.start_late n b) = (refusal_in late, in_start n 15 b late (omega arith) (omega arith) (start_any_late b), refl)
refused _ _ (wrong.before_8 n s l d k g h) = (
  refusal_in early,
  at_edge n s l k (plain d) (g, omega arith) early (at_early (1 + length l) (so_far l) (d - 1) (level_after false l) false (omega arith)),
  refl,
)
refused _ _ (wrong.past_14 n s l d k g h) = (
  refusal_in early,
  at_edge n s l k (plain d) (omega arith, omega arith) early
      (at_gap (1 + length l) (so_far l) (d - 1) (level_after false l) false (omega arith) (omega arith)),
  refl,
)
refused _ _ (wrong.second n s l e d k g h u v) =
    let c = level_after false l in (
      refusal_in early,
      at_edge n s l k (crossed e d) (g, h, u, omega arith) early
          (subst (λ (b : Bool). step_of (mid (1 + length l) (so_far l) (d - 1) (not c) true) (level_of b) ≡ gives early) (not-not c)
          (at_second (1 + length l) (so_far l) (d - 1) (not c) true (omega arith) refl)),
      refl,
    )
refused _ _ (wrong.late n s l b k) = (
  refusal_in late,
  past_middle n s l k (plain 24) (omega arith, omega arith) late (level_of b)
      (at_24 (1 + length l) (so_far l) 23 (level_after false l) false b (omega arith)),
  refl,
)
refused _ _ (wrong.late_crossed n s l e b k g h) = (
  refusal_in late,
  past_middle n s l k (crossed e 24) (g, h, omega arith, omega arith) late (level_of b)
      (at_24 (1 + length l) (so_far l) 23 (not (level_after false l)) true b (omega arith)),
  refl,
)
refused _ _ (wrong.rises n s l t k len ht f) = (refusal_in no_stop, rising n s l t k.from k.upto k.allowed ht len f, refl)

-- the same by the refusal's name, which its number tells
pub refused_as : (l : List ℕ) (x : Refusal) → Wrong l (number_of (Refused x)) → Last l (Refused x)
refused_as l x w = let p = refused l (number_of (Refused x)) w in subst (λ (y : Refusal). Last l (Refused y)) (one_refusal p.0 x p.2) p.1

-- "A sample of 2 to 255 is refusal 4 in every state and before 1 to 3; the reader then waits for 24 idle samples."
pub bad_sample_4 : (r : Reader) (s : ℕ) → 2 ≤ s → WithRefusal 4 (λ x. step_of r s ≡ record { reader = record { phase = Waiting 0 }; answer = x })
bad_sample_4 r s h = (refusal_in no_sample, bad_sample r s h, refl)
