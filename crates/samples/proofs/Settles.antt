-- Whatever a reader holds, 25 idle samples make it wait: in the start bit or past a middle edge the first of them is at most an edge, and
-- the 24th after that is too late for the next. The lemmas of Recovers.
-- Assumes nothing.
use mathlib.Core.Path.{◌≡◌, refl, sym, ap, ◌∙◌, subst}
use mathlib.Core.Bool.{Bool, true, false}
use Prim.Native.Nat.{ℕ, zero, suc, ◌+◌, ◌≤◌, ◌<◌, min}
use native.Mathlib.Decide.{dec_lt}
use native.Mathlib.Omega.{arith}
use lib.ListN.{replicate}
use Rattle.word.specs.declared.Frame.{Frame}
use Rattle.samples.specs.declared.Phase.{Phase}
use Rattle.samples.specs.declared.Phase.TheVariants.{Waiting, Start, Bits}
use Rattle.samples.specs.declared.Answer.{Answer}
use Rattle.samples.specs.Reader.{Reader, Step}
use Rattle.samples.specs.Reading.{begun, gives, goes_on, measured, with_bit, waited_of, middle_of, step_of}
use Rattle.samples.specs.Run.{after_of}
use Rattle.samples.proofs.Cases.{more_idle, idle_enough, start_late, start_early, start_middle, stop_falls, next_bit, a_sample}
use Rattle.samples.proofs.Stretches.{md, mid, starting, same_level, at_24, at_middle, at_second, at_early, at_gap, at_other}

abbrev pub waiting : ℕ → Reader
waiting n = record { phase = Waiting n }

pub record Waits (r : Reader) : Type 0 where
  pub count : ℕ
  pub few : count ≤ 24
  pub is : r ≡ waiting count

-- k idle samples make r wait
abbrev pub Settles : ℕ → Reader → Type 0
Settles k r = Waits (after_of r (replicate k 0))

pub idle_step : (n : ℕ) → step_of (waiting n) 0 ≡ goes_on (Waiting (min 24 (n + 1)))
idle_step n = a_sample (waiting n) 0 (omega arith) ∙ ap goes_on (go (dec_lt n 24))
  where
    go : Dec (n < 24) → waited_of n false ≡ Waiting (min 24 (n + 1))
    go (yes l) = more_idle n l ∙ ap Waiting (let e : n + 1 ≡ min 24 (n + 1) = omega arith in e)
    go (no l) = idle_enough n (omega arith) ∙ ap Waiting (let e : 24 ≡ min 24 (n + 1) = omega arith in e)

-- a reader that waits goes on waiting
pub waits_on : (k n : ℕ) → n ≤ 24 → after_of (waiting n) (replicate k 0) ≡ waiting (min 24 (n + k))
unfolding after_of
waits_on zero n h = let e : n ≡ min 24 (n + 0) = omega arith in ap waiting e
waits_on (suc k) n h =
    let e : min 24 (min 24 (n + 1) + k) ≡ min 24 (n + suc k) = omega arith in
    ap (λ (s : Step). after_of s.reader (replicate k 0)) (idle_step n) ∙ waits_on k (min 24 (n + 1)) (omega arith) ∙ ap waiting e

waits : (k n : ℕ) → n ≤ 24 → Settles k (waiting n)
waits k n h = record { count = min 24 (n + k); few = omega arith; is = waits_on k n h }

after_idle : (k : ℕ) (r : Reader) {s : Step} → step_of r 0 ≡ s → Settles k s.reader → Settles (suc k) r
unfolding after_of
after_idle k r e w = subst (λ (s : Step). Waits (after_of s.reader (replicate k 0))) (sym e) w

answers : (k : ℕ) (r : Reader) {x : Answer} → step_of r 0 ≡ gives x → Settles (suc k) r
answers k r e = after_idle k r e (waits k 0 (omega arith))

-- at an idle level, until 24
idle_level : (j k : ℕ) (f : Frame) (d : ℕ) (o : Bool) → 24 ≤ d + j → 1 ≤ j → Settles j (mid k f d false o)
idle_level zero k f d o h g = absurd (omega arith)
idle_level (suc j) k f d o h g = go (dec_lt d 23) (λ (l : d < 23). idle_level j k f (d + 1) o (omega arith) (omega arith))
  where
    go : Dec (d < 23) → (d < 23 → Settles j (mid k f (d + 1) false o)) → Settles (suc j) (mid k f d false o)
    go (no l) r = answers j (mid k f d false o) (at_24 k f d false o false (omega arith))
    go (yes l) r = after_idle j (mid k f d false o) (same_level k f d false o (omega arith)) (r l)

-- at an active level the idle sample is an edge: a middle edge, which is the frame's last or a bit ..
falls : (k : ℕ) (f : Frame) (d : ℕ) (o : Bool) → 17 ≤ d → d < 23 → Settles 25 (mid k f d true o)
falls k f d o g h = go (dec_lt k 33)
  where
    edge : step_of (mid k f d true o) 0 ≡ middle_of (md k f d true o) (d + 1) false
    edge = at_middle k f d true o g h

    go : Dec (k < 33) → Settles 25 (mid k f d true o)
    go (no l) = answers 24 (mid k f d true o) (edge ∙ stop_falls (md k f d true o) (d + 1) false (omega arith) refl)
    go (yes l) =
        after_idle 24 (mid k f d true o) (edge ∙ next_bit (md k f d true o) (d + 1) false l)
        (idle_level 24 (k + 1) (with_bit (measured f (d + 1)) false) 0 false (omega arith) (omega arith))

-- .. or before 18 the other edge, or one too many
before_18 : (k : ℕ) (f : Frame) (d : ℕ) (o : Bool) → d < 17 → Dec (d < 7) → Dec (d < 14) → Settles 25 (mid k f d true o)
before_18 k f d true u p q = answers 24 (mid k f d true true) (at_second k f d true true u refl)
before_18 k f d false u (yes p) q = answers 24 (mid k f d true false) (at_early k f d true false p)
before_18 k f d false u (no p) (no q) = answers 24 (mid k f d true false) (at_gap k f d true false (omega arith) u)
before_18 k f d false u (no p) (yes q) =
    after_idle 24 (mid k f d true false) (at_other k f d true (omega arith) q) (idle_level 24 k f (d + 1) true (omega arith) (omega arith))

active_level : (k : ℕ) (f : Frame) (d : ℕ) (o : Bool) → Dec (d < 17) → Dec (d < 23) → Settles 25 (mid k f d true o)
active_level k f d o (yes u) v = before_18 k f d o u (dec_lt d 7) (dec_lt d 14)
active_level k f d o (no u) (yes v) = falls k f d o (omega arith) v
active_level k f d o (no u) (no v) = answers 24 (mid k f d true o) (at_24 k f d true o false (omega arith))

start_bit : (d : ℕ) → Dec (d < 7) → Dec (d < 14) → Settles 25 (starting d)
start_bit d (yes p) q = answers 24 (starting d) (a_sample (starting d) 0 (omega arith) ∙ start_early (d + 1) (omega arith))
start_bit d (no p) (no q) = answers 24 (starting d) (a_sample (starting d) 0 (omega arith) ∙ start_late (d + 1) false (omega arith))
start_bit d (no p) (yes q) =
    after_idle 24 (starting d) (a_sample (starting d) 0 (omega arith) ∙ start_middle (d + 1) (omega arith) (omega arith))
    (idle_level 24 1 begun 0 false (omega arith) (omega arith))

pub settles : (p : Phase) → Settles 25 (record { phase = p })
settles (Waiting n) = after_idle 24 (waiting n) (idle_step n) (waits 24 (min 24 (n + 1)) (omega arith))
settles (Start d) = start_bit d (dec_lt d 7) (dec_lt d 14)
settles (Bits m) = go m.active refl
  where
    go : (a : Bool) → m.active ≡ a → Settles 25 (record { phase = Bits m })
    go true e =
        subst (λ (a : Bool). Settles 25 (mid m.edges m.frame m.distance a m.other)) (sym e)
        (active_level m.edges m.frame m.distance m.other (dec_lt m.distance 17) (dec_lt m.distance 23))
    go false e =
        subst (λ (a : Bool). Settles 25 (mid m.edges m.frame m.distance a m.other)) (sym e)
        (idle_level 25 m.edges m.frame m.distance m.other (omega arith) (omega arith))
