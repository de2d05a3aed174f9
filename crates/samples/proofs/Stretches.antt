-- The reader along a line that keeps to 01's distances: quiet up to each middle edge, whose bit it takes.
-- Assumes nothing.
use mathlib.Core.Path.{◌≡◌, refl, sym, ap, ◌∙◌, subst}
use mathlib.Core.Bool.{Bool, true, false, not, not-not, beq}
use mathlib.Core.List.{List, [], ◌∷◌, ◌++◌, append_assoc, append-nil}
use Prim.Native.Nat.{ℕ, zero, suc, ◌+◌, ◌*◌, ◌-◌, ◌^◌, ◌≤◌, ◌<◌}
use native.Mathlib.Nat.{pow-suc, mod-eq_of_lt}
use native.Mathlib.Omega.{arith}
use lib.Pow.{pow_mono}
use lib.ListN.{length, replicate, replicate-append-replicate}
use Rattle.word.specs.declared.Frame.{Frame}
use Rattle.samples.specs.declared.Middle.{Middle}
use Rattle.samples.specs.declared.Phase.TheVariants.{Waiting, Start, Bits}
use Rattle.samples.specs.Reader.{Reader}
use Rattle.samples.specs.Answers.{early, late}
use Rattle.samples.specs.Reading.{fresh_of, gives, goes_on, begun, bit_of, measured, with_bit, middle_of, next_of, waited_of, step_of}
use Rattle.samples.specs.Run.{answers_of, after_of}
use Rattle.samples.specs.Edges.{level_of, Stretch, plain, crossed, Allowed, AllAllowed, turned, level_after, leg_samples, stretch_samples}
use Rattle.samples.specs.Edges.{stretches_samples, levels_of, edge_bits, number_from, distance_of}
use Rattle.samples.proofs.Cases.{idle_enough, first_edge, start_on, start_middle, no_edge, other_edge, middle_edge, second_other, before_8}
use Rattle.samples.proofs.Cases.{past_14, too_late, next_bit, bit_small, a_sample}
use Rattle.samples.proofs.Runs.{Quiet, stay, join, one}

-- after 24 idle samples
abbrev pub armed : Reader
armed = record { phase = Waiting 24 }

-- d samples past a middle edge, the k-th
abbrev pub md : ℕ → Frame → ℕ → Bool → Bool → Middle
md k f d a o = record { edges = k; frame = f; distance = d; active = a; other = o }

abbrev pub mid : ℕ → Frame → ℕ → Bool → Bool → Reader
mid k f d a o = record { phase = Bits (md k f d a o) }

abbrev pub starting : ℕ → Reader
starting d = record { phase = Start d }

-- one sample, of a level, after a middle edge and before the next
level_sample : (k : ℕ) (f : Frame) (d : ℕ) (a o b : Bool) → step_of (mid k f d a o) (level_of b) ≡ next_of (md k f d a o) (d + 1) b
level_sample k f d a o true = a_sample (mid k f d a o) 1 (omega arith)
level_sample k f d a o false = a_sample (mid k f d a o) 0 (omega arith)

same : (a : Bool) → beq a a ≡ true
same true = refl
same false = refl

unlike : (a : Bool) → beq (not a) a ≡ false
unlike true = refl
unlike false = refl

module _ (k : ℕ) (f : Frame) (d : ℕ) (a o : Bool) where
  pub same_level : d < 23 → step_of (mid k f d a o) (level_of a) ≡ goes_on (Bits (md k f (d + 1) a o))
  same_level h = level_sample k f d a o a ∙ no_edge (md k f d a o) (d + 1) a (omega arith) (same a)

  pub at_middle : 17 ≤ d → d < 23 → step_of (mid k f d a o) (level_of (not a)) ≡ middle_of (md k f d a o) (d + 1) (not a)
  at_middle g h = level_sample k f d a o (not a) ∙ middle_edge (md k f d a o) (d + 1) (not a) (omega arith) (omega arith) (unlike a)

  pub at_second : d < 17 → o ≡ true → step_of (mid k f d a o) (level_of (not a)) ≡ gives early
  at_second h e = level_sample k f d a o (not a) ∙ second_other (md k f d a o) (d + 1) (not a) (omega arith) (unlike a) e

  pub at_early : d < 7 → step_of (mid k f d a o) (level_of (not a)) ≡ gives early
  at_early h = level_sample k f d a o (not a) ∙ before_8 (md k f d a o) (d + 1) (not a) (omega arith) (unlike a)

  pub at_gap : 14 ≤ d → d < 17 → step_of (mid k f d a o) (level_of (not a)) ≡ gives early
  at_gap g h = level_sample k f d a o (not a) ∙ past_14 (md k f d a o) (d + 1) (not a) (omega arith) (omega arith) (unlike a)

  pub at_24 : (b : Bool) → 23 ≤ d → step_of (mid k f d a o) (level_of b) ≡ gives late
  at_24 b h = level_sample k f d a o b ∙ too_late (md k f d a o) (d + 1) b (omega arith)

pub at_other : (k : ℕ) (f : Frame) (d : ℕ) (a : Bool) → 7 ≤ d → d < 14 → step_of (mid k f d a false) (level_of (not a)) ≡ goes_on (Bits (md k f (d + 1) (not a) true))
at_other k f d a g h = level_sample k f d a false (not a) ∙ other_edge (md k f d a false) (d + 1) (not a) (omega arith) (omega arith) (unlike a) refl

-- samples of one level
pub hold : (k : ℕ) (f : Frame) (o a : Bool) (n d : ℕ) → d + n ≤ 23 → Quiet (mid k f d a o) (replicate n (level_of a)) (mid k f (d + n) a o)
hold k f o a zero d h = let z : d + 0 ≡ d = omega arith in rw z (stay (mid k f d a o))
hold k f o a (suc n) d h =
    let z : d + suc n ≡ d + 1 + n = omega arith in
    rw z (join (one (level_of a) (same_level k f d a o (omega arith))) (hold k f o a n (d + 1) (omega arith)))

-- a stretch whose middle edge hasn't come: the next sample is at its distance
abbrev pub Open : Stretch → Type 0
Open (plain d) = (1 ≤ d) × (d ≤ 24)
Open (crossed e d) = (8 ≤ e) × (e ≤ 14) × (e < d) × (d ≤ 24)

pub allowed_open : (t : Stretch) → Allowed t → Open t
allowed_open (plain d) h = (omega arith, omega arith)
allowed_open (crossed e d) h = (omega arith, omega arith, omega arith, omega arith)

-- the reader before the last of a stretch's samples
abbrev pub after_leg : ℕ → Frame → Bool → Stretch → Middle
after_leg k f a (plain d) = md k f (d - 1) a false
after_leg k f a (crossed e d) = md k f (d - 1) (not a) true

abbrev pub leg_end : ℕ → Frame → Bool → Stretch → Reader
leg_end k f a t = record { phase = Bits (after_leg k f a t) }

pub leg : (k : ℕ) (f : Frame) (a : Bool) (t : Stretch) → Open t → Quiet (mid k f 0 a false) (leg_samples a t) (leg_end k f a t)
leg k f a (plain d) h = let e : 0 + (d - 1) ≡ d - 1 = omega arith in rw e at (hold k f false a (d - 1) 0 (omega arith))
leg k f a (crossed e d) h =
    let u : 0 + (e - 1) ≡ e - 1 = omega arith in
    let y : d - e ≡ suc (d - e - 1) = omega arith in
    let z : e - 1 + 1 + (d - e - 1) ≡ d - 1 = omega arith in
    let p : Quiet (mid k f 0 a false) (replicate (e - 1) (level_of a)) (mid k f (e - 1) a false) = rw u at (hold k f false a (e - 1) 0 (omega arith)) in
    let q : Quiet (mid k f (e - 1) a false) (replicate (suc (d - e - 1)) (level_of (not a))) (mid k f (d - 1) (not a) true) =
    rw z at (join (one (level_of (not a)) (at_other k f (e - 1) a (omega arith) (omega arith))) (hold k f true (not a) (d - e - 1) (e - 1 + 1) (omega arith))) in
    join p (rw y q)

-- the middle edge at the end of a stretch
pub leg_edge : (k : ℕ) (f : Frame) (a : Bool) (t : Stretch) → Allowed t →
    step_of (leg_end k f a t) (level_of (turned a t)) ≡ middle_of (after_leg k f a t) (distance_of t) (turned a t)
leg_edge k f a (plain d) h =
    let n : d - 1 + 1 ≡ d = omega arith in
    at_middle k f (d - 1) a false (omega arith) (omega arith) ∙ ap (λ (y : ℕ). middle_of (md k f (d - 1) a false) y (not a)) n
leg_edge k f a (crossed e d) h =
    let n : d - 1 + 1 ≡ d = omega arith in
    subst (λ (b : Bool). step_of (mid k f (d - 1) (not a) true) (level_of b) ≡ middle_of (md k f (d - 1) (not a) true) d b) (not-not a)
    (at_middle k f (d - 1) (not a) true (omega arith) (omega arith) ∙ ap (λ (y : ℕ). middle_of (md k f (d - 1) (not a) true) y (not (not a))) n)

-- the frame one middle edge on, at the end of the stretch t
abbrev pub one_on : Frame → Bool → Stretch → Frame
one_on f a t = with_bit (measured f (distance_of t)) (turned a t)

-- a whole stretch is the next bit
stretch : (k : ℕ) (f : Frame) (a : Bool) (t : Stretch) → Allowed t → k < 33
    → Quiet (mid k f 0 a false) (stretch_samples a t) (mid (k + 1) (one_on f a t) 0 (turned a t) false)
stretch k f a t h l =
    let s : step_of (leg_end k f a t) (level_of (turned a t)) ≡ goes_on (Bits (md (k + 1) (one_on f a t) 0 (turned a t) false)) =
    leg_edge k f a t h ∙ bit t in
    join (leg k f a t (allowed_open t h)) (one (level_of (turned a t)) s)
  where
    bit : (t : Stretch) → middle_of (after_leg k f a t) (distance_of t) (turned a t) ≡ goes_on (Bits (md (k + 1) (one_on f a t) 0 (turned a t) false))
    bit (plain d) = next_bit (after_leg k f a (plain d)) d (not a) l
    bit (crossed e d) = next_bit (after_leg k f a (crossed e d)) d a l

abbrev pub shifted_by : Frame → Bool → List Stretch → Frame
shifted_by f a [] = f
shifted_by f a (t ∷ l) = shifted_by (one_on f a t) (turned a t) l

pub stretches : (k : ℕ) (f : Frame) (a : Bool) (l : List Stretch) → AllAllowed l → k + length l ≤ 33
    → Quiet (mid k f 0 a false) (stretches_samples a l) (mid (k + length l) (shifted_by f a l) 0 (level_after a l) false)
stretches k f a [] h g = let z : k + 0 ≡ k = omega arith in rw z (stay (mid k f 0 a false))
stretches k f a (t ∷ l) h g =
    let z : k + suc (length l) ≡ k + 1 + length l = omega arith in
    rw z (join (stretch k f a t h.0 (omega arith)) (stretches (k + 1) (one_on f a t) (turned a t) l h.1 (omega arith)))

-- 32 bits pass none over the top
pub word_after : (j : ℕ) (f : Frame) (a : Bool) (l : List Stretch) → f.word < 2 ^ j → j + length l ≤ 32 → (shifted_by f a l).word ≡ number_from f.word (edge_bits a l)
word_after j f a [] h g = refl
word_after j f a (t ∷ l) h g =
    let b = bit_small (turned a t) in
    let p : 2 ^ suc j ≡ 2 ^ j * 2 = pow-suc 2 j in
    let m : 2 ^ suc j ≤ 2 ^ 32 = pow_mono (let u : suc j ≤ 32 = omega arith in u) in
    let q = one_on f a t in
    let e : q.word ≡ f.word * 2 + bit_of (turned a t) = mod-eq_of_lt (let v : f.word * 2 + bit_of (turned a t) < 2 ^ 32 = omega arith in v) in
    word_after (suc j) q (turned a t) l (omega arith) (omega arith) ∙ ap (λ (y : ℕ). number_from y (edge_bits (turned a t) l)) e

-- 24 idle samples or more
idle_24 : Quiet fresh_of (replicate 24 0) armed
unfolding answers_of after_of step_of waited_of
idle_24 = record { silent = refl; ends = refl }

idle_on : (n : ℕ) → Quiet armed (replicate n 0) armed
idle_on zero = stay armed
idle_on (suc n) = join (one 0 (a_sample armed 0 (omega arith) ∙ ap goes_on (idle_enough 24 (omega arith)))) (idle_on n)

pub idle : (n : ℕ) → Quiet fresh_of (replicate (24 + n) 0) armed
idle n = rw replicate-append-replicate at (join idle_24 (idle_on n))

-- the start bit: its first edge, its active half, its middle edge
pub active_half : (n d : ℕ) → d + n ≤ 14 → Quiet (starting d) (replicate n 1) (starting (d + n))
active_half zero d h = let e : d + 0 ≡ d = omega arith in rw e (stay (starting d))
active_half (suc n) d h =
    let e : d + suc n ≡ d + 1 + n = omega arith in
    let s : step_of (starting d) 1 ≡ goes_on (Start (d + 1)) = a_sample (starting d) 1 (omega arith) ∙ start_on (d + 1) (omega arith) in
    rw e (join (one 1 s) (active_half n (d + 1) (omega arith)))

pub first_half : (s : ℕ) → 1 ≤ s → s ≤ 15 → Quiet armed (replicate s 1) (starting (s - 1))
first_half s g h =
    let e : s ≡ suc (s - 1) = omega arith in
    let z : 0 + (s - 1) ≡ s - 1 = omega arith in
    let rise : step_of armed 1 ≡ goes_on (Start 0) = a_sample armed 1 (omega arith) ∙ ap goes_on (first_edge 24 (omega arith)) in
    let q : Quiet (starting 0) (replicate (s - 1) 1) (starting (s - 1)) = rw z at (active_half (s - 1) 0 (omega arith)) in
    subst (λ (x : ℕ). Quiet armed (replicate x 1) (starting (s - 1))) (sym e) (join (one 1 rise) q)

start_bit : (s : ℕ) → 8 ≤ s → s ≤ 14 → Quiet armed (replicate s 1 ++ (0 ∷ [])) (mid 1 begun 0 false false)
start_bit s g h =
    let z : s - 1 + 1 ≡ s = omega arith in
    let e : step_of (starting (s - 1)) 0 ≡ goes_on (Bits (md 1 begun 0 false false)) =
    a_sample (starting (s - 1)) 0 (omega arith) ∙ start_middle (s - 1 + 1) (omega arith) (omega arith) in
    join (first_half s (omega arith) (omega arith)) (one 0 e)

-- the frame as far as a line's middle edges tell it
abbrev pub so_far : List Stretch → Frame
so_far l = shifted_by begun false l

-- a line up to a middle edge before the 34th, and past it
module _ (n s : ℕ) (l : List Stretch) (gs : 8 ≤ s) (hs : s ≤ 14) (hl : AllAllowed l) (len : length l ≤ 32) where
  quiet_line : Quiet fresh_of (levels_of n s l) (mid (1 + length l) (so_far l) 0 (level_after false l) false)
  quiet_line =
      let q = join (idle n) (join (start_bit s gs hs) (stretches 1 begun false l hl (omega arith))) in
      rw (append_assoc (replicate s 1) (0 ∷ []) (stretches_samples false l)) at q

  pub quiet_leg : (t : Stretch) → Open t
      → Quiet fresh_of (levels_of n s l ++ leg_samples (level_after false l) t) (leg_end (1 + length l) (so_far l) (level_after false l) t)
  quiet_leg t h = join quiet_line (leg (1 + length l) (so_far l) (level_after false l) t h)

pub level_last : (a : Bool) (l : List Stretch) (t : Stretch) → level_after a (l ++ (t ∷ [])) ≡ turned (level_after a l) t
level_last a [] t = refl
level_last a (u ∷ l) t = level_last (turned a u) l t

pub all_allowed : (l r : List Stretch) → AllAllowed l → AllAllowed r → AllAllowed (l ++ r)
all_allowed [] r hl hr = hr
all_allowed (t ∷ l) r hl hr = (hl.0, all_allowed l r hl.1 hr)

stretches_last : (a : Bool) (l : List Stretch) (t : Stretch) →
    stretches_samples a (l ++ (t ∷ [])) ≡ stretches_samples a l ++ stretch_samples (level_after a l) t
stretches_last a [] t = append-nil (stretch_samples a t)
stretches_last a (x ∷ l) t =
    ap (λ (y : List ℕ). stretch_samples a x ++ y) (stretches_last (turned a x) l t)
    ∙ sym (append_assoc (stretch_samples a x) (stretches_samples (turned a x) l) (stretch_samples (level_after (turned a x) l) t))

-- a line and one stretch more
pub line_last : (n s : ℕ) (l : List Stretch) (t : Stretch) → levels_of n s (l ++ (t ∷ [])) ≡ levels_of n s l ++ stretch_samples (level_after false l) t
line_last n s l t =
    ap (λ (x : List ℕ). replicate (24 + n) 0 ++ (replicate s 1 ++ (0 ∷ x))) (stretches_last false l t)
    ∙ simp append_assoc
