-- Samples tell one frame: they end with the stretches of a frame in one way only (`heard_one`). 24 idle samples and an active one stand nowhere within a
-- frame: a reader that isn't waiting would answer them.
-- Assumes nothing.
use mathlib.Core.Path.{◌≡◌, refl, sym, ap, ◌∙◌}
use mathlib.Core.Bool.{Bool, true, false}
use mathlib.Core.List.{List, [], ◌∷◌, ◌++◌, append_assoc}
use Prim.Native.Nat.{ℕ, zero, suc, ◌+◌, ◌-◌, ◌≤◌, ◌<◌, min}
use native.Mathlib.Decide.{dec_lt}
use native.Mathlib.Omega.{arith}
use lib.ListN.{length, length-append, length-replicate, take, drop, replicate, replicate-append-replicate}
use lib.Seq.{take_at, drop_at}
use Rattle.word.proofs.Clash.{clash}
use Rattle.word.specs.declared.Frame.{Frame}
use Rattle.samples.specs.declared.Phase.{Phase}
use Rattle.samples.specs.declared.Phase.TheVariants.{Waiting, Start, Bits}
use Rattle.samples.specs.declared.Answer.{Answer}
use Rattle.samples.specs.declared.Answer.TheVariants as answer
use Rattle.samples.specs.Reader.{Reader, Step}
use Rattle.samples.specs.Reading.{fresh_of, begun, gives, goes_on, measured, with_bit, middle_of, step_of}
use Rattle.samples.specs.Run.{answers_of, after_of, none, Last}
use Rattle.samples.specs.Edges.{stretches_samples, levels_of, Heard}
use Rattle.samples.proofs.Cases.{start_late, start_early, start_middle, stop_falls, next_bit, a_sample}
use Rattle.samples.proofs.Runs.{Quiet, stay, join, one, answers_append, then_answers}
use Rattle.samples.proofs.Stretches.{md, mid, starting, same_level, at_24, at_middle, at_second, at_early, at_gap, at_other, armed}
use Rattle.samples.proofs.Settles.{waiting, idle_step}
use Rattle.samples.proofs.Tolerant.{given}

abbrev head_of : List Answer → Answer
head_of [] = answer.Nothing
head_of (x ∷ l) = x

-- ---- a reader that isn't waiting, and samples that give no answer

module _ (r : Reader) (x : ℕ) (l : List ℕ) (n : ℕ) where
  on : {p : Phase} → step_of r x ≡ goes_on p → answers_of r (x ∷ l) ≡ none (suc n) → answers_of (record { phase = p }) l ≡ none n
  unfolding answers_of
  on e h = sym (ap (λ (s : Step). answers_of s.reader l) e) ∙ ap (drop 1) h

  off : {y : Answer} → step_of r x ≡ gives y → answers_of r (x ∷ l) ≡ none (suc n) → y ≡ answer.Nothing
  unfolding answers_of
  off e h = sym (ap (λ (s : Step). s.answer) e) ∙ ap head_of h

-- at an idle level: not so long
idle_long : (n k : ℕ) (f : Frame) (d : ℕ) (o : Bool) → 23 ≤ d + n → answers_of (mid k f d false o) (replicate n 0 ++ (1 ∷ [])) ≡ none (suc n) → ⊥
idle_long zero k f d o h e = let z = off (mid k f d false o) 1 [] 0 (at_24 k f d false o true (omega arith)) e in clash cc
idle_long (suc n) k f d o h e = go (dec_lt d 23) (λ (q : answers_of (mid k f (d + 1) false o) (replicate n 0 ++ (1 ∷ [])) ≡ none (suc n)). idle_long n k f (d + 1) o (omega arith) q)
  where
    l : List ℕ
    l = replicate n 0 ++ (1 ∷ [])

    go : Dec (d < 23) → (answers_of (mid k f (d + 1) false o) (replicate n 0 ++ (1 ∷ [])) ≡ none (suc n) → ⊥) → ⊥
    go (no g) more = let z = off (mid k f d false o) 0 l (suc n) (at_24 k f d false o false (omega arith)) e in clash cc
    go (yes g) more = more (on (mid k f d false o) 0 l (suc n) (same_level k f d false o g) e)

-- 24 idle samples and an active one
abbrev gap : List ℕ
gap = replicate 24 0 ++ (1 ∷ [])

abbrev rest : List ℕ
rest = replicate 23 0 ++ (1 ∷ [])

-- at an active level the first of them is an edge
module _ (k : ℕ) (f : Frame) (d : ℕ) where
  falls : (o : Bool) → 17 ≤ d → d < 23 → answers_of (mid k f d true o) gap ≡ none 25 → ⊥
  falls o g h e = go (dec_lt k 33)
    where
      edge : step_of (mid k f d true o) 0 ≡ middle_of (md k f d true o) (d + 1) false
      edge = at_middle k f d true o g h

      go : Dec (k < 33) → ⊥
      go (no l) = let z = off (mid k f d true o) 0 rest 24 (edge ∙ stop_falls (md k f d true o) (d + 1) false (omega arith) refl) e in clash cc
      go (yes l) =
          idle_long 23 (k + 1) (with_bit (measured f (d + 1)) false) 0 false (omega arith)
          (on (mid k f d true o) 0 rest 24 (edge ∙ next_bit (md k f d true o) (d + 1) false l) e)

  active : (o : Bool) → Dec (d < 7) → Dec (d < 14) → Dec (d < 17) → Dec (d < 23) → answers_of (mid k f d true o) gap ≡ none 25 → ⊥
  active o p q u (no v) e = let z = off (mid k f d true o) 0 rest 24 (at_24 k f d true o false (omega arith)) e in clash cc
  active o p q (no u) (yes v) e = falls o (omega arith) v e
  active true p q (yes u) (yes v) e = let z = off (mid k f d true true) 0 rest 24 (at_second k f d true true u refl) e in clash cc
  active false (yes p) q (yes u) (yes v) e = let z = off (mid k f d true false) 0 rest 24 (at_early k f d true false p) e in clash cc
  active false (no p) (no q) (yes u) (yes v) e = let z = off (mid k f d true false) 0 rest 24 (at_gap k f d true false (omega arith) u) e in clash cc
  active false (no p) (yes q) (yes u) (yes v) e =
      idle_long 23 k f (d + 1) true (omega arith) (on (mid k f d true false) 0 rest 24 (at_other k f d true (omega arith) q) e)

in_start : (d : ℕ) → Dec (d < 7) → Dec (d < 14) → answers_of (starting d) gap ≡ none 25 → ⊥
in_start d (yes p) q e = let z = off (starting d) 0 rest 24 (a_sample (starting d) 0 (omega arith) ∙ start_early (d + 1) (omega arith)) e in clash cc
in_start d (no p) (no q) e = let z = off (starting d) 0 rest 24 (a_sample (starting d) 0 (omega arith) ∙ start_late (d + 1) false (omega arith)) e in clash cc
in_start d (no p) (yes q) e =
    idle_long 23 1 begun 0 false (omega arith)
    (on (starting d) 0 rest 24 (a_sample (starting d) 0 (omega arith) ∙ start_middle (d + 1) (omega arith) (omega arith)) e)

-- ---- so a reader that gives no answer to them waits, and is as a fresh one after 24 idle samples

waits_quiet : (k n : ℕ) → n ≤ 24 → Quiet (waiting n) (replicate k 0) (waiting (min 24 (n + k)))
waits_quiet zero n h = let e : min 24 (n + 0) ≡ n = omega arith in rw e (stay (waiting n))
waits_quiet (suc k) n h =
    let e : min 24 (n + suc k) ≡ min 24 (min 24 (n + 1) + k) = omega arith in
    rw e (join (one 0 (idle_step n)) (waits_quiet k (min 24 (n + 1)) (omega arith)))

arms : (n : ℕ) → Quiet (waiting n) (replicate 24 0) armed
arms n =
    let e : min 24 (min 24 (n + 1) + 23) ≡ 24 = omega arith in
    rw e at (join (one 0 (idle_step n)) (waits_quiet 23 (min 24 (n + 1)) (omega arith)))

in_bits : (k : ℕ) (f : Frame) (d : ℕ) (a o : Bool) → answers_of (mid k f d a o) gap ≡ none 25 → ⊥
in_bits k f d true o e = active k f d o (dec_lt d 7) (dec_lt d 14) (dec_lt d 17) (dec_lt d 23) e
in_bits k f d false o e = idle_long 24 k f d o (omega arith) e

as_fresh : (p : Phase) (l : List ℕ) → answers_of (record { phase = p }) gap ≡ none 25
    → answers_of (record { phase = p }) (replicate 24 0 ++ l) ≡ answers_of fresh_of (replicate 24 0 ++ l)
as_fresh (Waiting n) l e = then_answers l (arms n) ∙ sym (then_answers l (arms 0))
as_fresh (Start d) l e = absurd (in_start d (dec_lt d 7) (dec_lt d 14) e)
as_fresh (Bits m) l e = absurd (in_bits m.edges m.frame m.distance m.active m.other e)

-- ---- two partings of the same samples

-- the shorter end of a list is the end of the longer one
ending_of : (a b c d : List ℕ) → a ++ b ≡ c ++ d → length b ≤ length d → (x : List ℕ) × (d ≡ x ++ b)
ending_of a b [] d e h = (a, sym e)
ending_of [] b (y ∷ c) d e h = let n = ap length e in let m = length-append c d in absurd (omega arith)
ending_of (z ∷ a) b (y ∷ c) d e h = ending_of a b c d (ap (drop 1) e) h

length_answers : (r : Reader) (l : List ℕ) → length (answers_of r l) ≡ length l
unfolding answers_of
length_answers r [] = refl
length_answers r (x ∷ l) = ap suc (length_answers (step_of r x).reader l)

-- what comes after n samples without an answer
none_split : (n m : ℕ) (y : List Answer) → none (n + m) ++ y ≡ none n ++ (none m ++ y)
none_split n m y =
    ap (λ (x : List Answer). x ++ y) (sym (replicate-append-replicate n m answer.Nothing)) ∙ append_assoc (none n) (none m) y

same_last : (n : ℕ) (x y : Answer) → none n ++ (x ∷ []) ≡ none n ++ (y ∷ []) → x ≡ y
same_last zero x y e = ap head_of e
same_last (suc n) x y e = same_last n x y (ap (drop 1) e)

-- the part of a run behind x
behind : (x l : List ℕ) (n : ℕ) (y : List Answer) → answers_of fresh_of (x ++ l) ≡ none (length x + n) ++ y →
    answers_of (after_of fresh_of x) l ≡ none n ++ y
behind x l n y e =
    sym (drop_at (answers_of fresh_of x) (answers_of (after_of fresh_of x) l) (length x) (length_answers fresh_of x))
    ∙ ap (drop (length x)) (sym (answers_append fresh_of x l) ∙ e ∙ none_split (length x) n y)
    ∙ drop_at (none (length x)) (none n ++ y) (length x) (length-replicate (length x) answer.Nothing)

-- and in front of it
front : (r : Reader) (a l : List ℕ) (n : ℕ) (y : List Answer) → answers_of r (a ++ l) ≡ none (length a + n) ++ y → answers_of r a ≡ none (length a)
front r a l n y e =
    sym (take_at (answers_of r a) (answers_of (after_of r a) l) (length a) (length_answers r a))
    ∙ ap (take (length a)) (sym (answers_append r a l) ∙ e ∙ none_split (length a) n y)
    ∙ take_at (none (length a)) (none n ++ y) (length a) (length-replicate (length a) answer.Nothing)

-- 24 idle samples and a start bit: a reader that gives no answer to them goes on as a fresh one does
alike : (r : Reader) (s : ℕ) (m : List ℕ) (n : ℕ) (x y : Answer) → 1 ≤ s → answers_of r (replicate 24 0 ++ (replicate s 1 ++ m)) ≡ none (25 + n) ++ (x ∷ [])
    → answers_of fresh_of (replicate 24 0 ++ (replicate s 1 ++ m)) ≡ none (25 + n) ++ (y ∷ []) → x ≡ y
alike r zero m n x y h e g = absurd (omega arith)
alike r (suc s) m n x y h e g =
    let quiet : answers_of r gap ≡ none 25 = front r gap (replicate s 1 ++ m) n (x ∷ []) e in
    same_last (25 + n) x y (sym e ∙ as_fresh r.phase (1 ∷ (replicate s 1 ++ m)) quiet ∙ g)

frame_in : Answer → Frame
frame_in answer.Nothing = begun
frame_in (answer.Frame f) = f
frame_in (answer.Refused r) = begun

module _ (l : List ℕ) where
  abbrev end : {f : Frame} → Heard l f → List ℕ
  end h = levels_of 0 h.start (h.bits ++ (h.stop ∷ []))

  gives_end : {f : Frame} (h : Heard l f) → Last (end h) (answer.Frame f)
  gives_end {f} h =
      given 0 h.start h.bits h.stop h.start_allowed.0 h.start_allowed.1 h.bits_allowed h.stop_allowed h.count f h.frame h.falls

  shorter : {f g : Frame} (h : Heard l f) (k : Heard l g) → length (end h) ≤ length (end k) → f ≡ g
  unfolding frame_in
  shorter {f} {g} h k le =
      let d = ending_of h.before (end h) k.before (end k) (sym h.made ∙ k.made) le in
      let x = d.0 in
      let from = h.start_allowed.0 in
      let signal : List ℕ = 0 ∷ stretches_samples false (h.bits ++ (h.stop ∷ [])) in
      let half : List ℕ = replicate h.start 1 in
      let p : length (end h) ≡ 24 + length (half ++ signal) = length-append (replicate 24 0) (half ++ signal) in
      let q : length (half ++ signal) ≡ length half + length signal = length-append half signal in
      let u : length half ≡ h.start = length-replicate h.start 1 in
      let v : length (end k) ≡ length x + length (end h) = ap length d.1 ∙ length-append x (end h) in
      let n = length (end h) - 26 in
      let a : length (end h) - 1 ≡ 25 + n = omega arith in
      let b : length (end k) - 1 ≡ length x + (25 + n) = omega arith in
      let whole : answers_of fresh_of (x ++ end h) ≡ none (length x + (25 + n)) ++ (answer.Frame g ∷ []) =
      ap (answers_of fresh_of) (sym d.1) ∙ gives_end k ∙ ap (λ (j : ℕ). none j ++ (answer.Frame g ∷ [])) b in
      ap frame_in
      (sym (alike (after_of fresh_of x) h.start signal n (answer.Frame g) (answer.Frame f) (omega arith)
      (behind x (end h) (25 + n) (answer.Frame g ∷ []) whole)
      (gives_end h ∙ ap (λ (j : ℕ). none j ++ (answer.Frame f ∷ [])) a)))

  pub heard_one : (f g : Frame) → Heard l f → Heard l g → f ≡ g
  heard_one f g h k = go (dec_lt (length (end k)) (length (end h)))
    where
      go : Dec (length (end k) < length (end h)) → f ≡ g
      go (yes lt) = sym (shorter k h (omega arith))
      go (no ge) = shorter h k (omega arith)
