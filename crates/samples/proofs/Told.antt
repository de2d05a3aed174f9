-- What the reader holds tells which samples came since the last answer: `Told`. What the next sample adds, while the reader waits and in
-- the start bit.
-- Assumes nothing.
use mathlib.Core.Path.{◌≡◌, refl, sym, ap, ◌∙◌, subst}
use mathlib.Core.Bool.{true, false}
use mathlib.Core.List.{List, [], ◌∷◌, ◌++◌, append_assoc, append-nil}
use Prim.Native.Nat.{ℕ, zero, suc, ◌+◌, ◌≤◌, ◌<◌}
use native.Mathlib.Decide.{dec_lt}
use native.Mathlib.Omega.{arith}
use lib.ListN.{length, replicate, replicate-append-replicate}
use Rattle.word.proofs.Clash.{clash}
use Rattle.word.specs.declared.Frame.{Frame}
use Rattle.refusals.specs.declared.Refusal.{Refusal}
use Rattle.samples.specs.declared.Phase.{Phase}
use Rattle.samples.specs.declared.Phase.TheVariants.{Waiting, Start, Bits}
use Rattle.samples.specs.declared.Answer.{Answer}
use Rattle.samples.specs.declared.Answer.TheVariants as answer
use Rattle.samples.specs.Reader.{Reader, Step}
use Rattle.samples.specs.Reading.{gives, goes_on, begun, past_edge, step_of}
use Rattle.samples.specs.Edges.{Stretch, plain, AllAllowed, level_after, leg_samples, levels_of, Heard}
use Rattle.samples.proofs.Cases.{more_idle, idle_enough, too_soon, first_edge, start_late, start_on, start_early, start_middle, bad_sample, a_sample}
use Rattle.samples.proofs.Stretches.{starting, Open, leg_end, so_far}

-- the samples h came since the last answer, and the reader is r: it waits, and they end with n idle ones; it is in the start bit, and
-- they end with 24 idle and d + 1 active ones; or it is past a middle edge, and they end with a line at 01's distances and what has come
-- of the stretch t
pub data Told (h : List ℕ) (r : Reader) : Type 0 where
  waits : (b : List ℕ) (n : ℕ) → n ≤ 24 → h ≡ b ++ replicate n 0 → r ≡ record { phase = Waiting n } → Told h r
  starts : (b : List ℕ) (d : ℕ) → h ≡ b ++ (replicate 24 0 ++ replicate (d + 1) 1) → r ≡ starting d → Told h r
  follows : (b : List ℕ) (s : ℕ) (l : List Stretch) (t : Stretch) → (8 ≤ s) × (s ≤ 14) → AllAllowed l → length l ≤ 32 → Open t
      → h ≡ b ++ (levels_of 0 s l ++ leg_samples (level_after false l) t) → r ≡ leg_end (1 + length l) (so_far l) (level_after false l) t → Told h r

-- what the step of a sample x says of the samples h before it
pub record Next (h : List ℕ) (x : ℕ) (y : Step) : Type 0 where
  pub on : y.answer ≡ answer.Nothing → Told (h ++ (x ∷ [])) y.reader
  pub given : (f : Frame) → y.answer ≡ answer.Frame f → Heard (h ++ (x ∷ [])) f

abbrev frame_given : Answer → Frame
frame_given answer.Nothing = begun
frame_given (answer.Frame f) = f
frame_given (answer.Refused r) = begun

module _ (h : List ℕ) (x : ℕ) (y : Step) where
  pub goes : (p : Phase) → y ≡ goes_on p → Told (h ++ (x ∷ [])) (record { phase = p }) → Next h x y
  goes p e t = record {
    on = λ f. subst (λ (q : Step). Told (h ++ (x ∷ [])) q.reader) (sym e) t;
    given = λ g f. clash (cc (ap (λ (q : Step). q.answer) e));
  }

  pub refuses : {r : Refusal} → y ≡ gives (answer.Refused r) → Next h x y
  refuses e = record {
    on = λ f. clash (cc (ap (λ (q : Step). q.answer) e));
    given = λ g f. clash (cc (ap (λ (q : Step). q.answer) e));
  }

  pub ends : (q : Frame) → y ≡ gives (answer.Frame q) → Heard (h ++ (x ∷ [])) q → Next h x y
  ends q e g = record {
    on = λ f. clash (cc (ap (λ (q : Step). q.answer) e));
    given = λ p f. subst (Heard (h ++ (x ∷ []))) (ap frame_given (sym (ap (λ (q : Step). q.answer) e) ∙ f)) g;
  }

pub snoc : (n v : ℕ) → replicate n v ++ (v ∷ []) ≡ replicate (n + 1) v
snoc n v = replicate-append-replicate n 1 v

-- one sample more behind a list that is known
pub behind : (h b c d : List ℕ) (x : ℕ) → h ≡ b ++ c → c ++ (x ∷ []) ≡ d → h ++ (x ∷ []) ≡ b ++ d
behind h b c d x e f = ap (λ (y : List ℕ). y ++ (x ∷ [])) e ∙ append_assoc b c (x ∷ []) ∙ ap (λ (y : List ℕ). b ++ y) f

pub wait_next : (h b : List ℕ) (n x : ℕ) → n ≤ 24 → h ≡ b ++ replicate n 0 → Next h x (step_of (record { phase = Waiting n }) x)
wait_next h b n zero g e = go (dec_lt n 24)
  where
    go : Dec (n < 24) → Next h 0 (step_of (record { phase = Waiting n }) 0)
    go (yes l) =
        goes h 0 _ (Waiting (n + 1)) (a_sample (record { phase = Waiting n }) 0 (omega arith) ∙ ap goes_on (more_idle n l))
        (waits b (n + 1) (omega arith) (behind h b (replicate n 0) (replicate (n + 1) 0) 0 e (snoc n 0)) refl)
    go (no l) =
        let m : n ≡ 24 = omega arith in
        let f : h ++ (0 ∷ []) ≡ b ++ (0 ∷ replicate 24 0) =
        behind h b (replicate 24 0) (0 ∷ replicate 24 0) 0 (e ∙ ap (λ (k : ℕ). b ++ replicate k 0) m) refl in
        goes h 0 _ (Waiting 24) (a_sample (record { phase = Waiting n }) 0 (omega arith) ∙ ap goes_on (idle_enough n (omega arith)))
        (waits (b ++ (0 ∷ [])) 24 (omega arith) (f ∙ sym (append_assoc b (0 ∷ []) (replicate 24 0))) refl)
wait_next h b n (suc zero) g e = go (dec_lt n 24)
  where
    go : Dec (n < 24) → Next h 1 (step_of (record { phase = Waiting n }) 1)
    go (yes l) =
        goes h 1 _ (Waiting 0) (a_sample (record { phase = Waiting n }) 1 (omega arith) ∙ ap goes_on (too_soon n l))
        (waits (h ++ (1 ∷ [])) 0 (omega arith) (sym (append-nil (h ++ (1 ∷ [])))) refl)
    go (no l) =
        let m : n ≡ 24 = omega arith in
        goes h 1 _ (Start 0) (a_sample (record { phase = Waiting n }) 1 (omega arith) ∙ ap goes_on (first_edge n (omega arith)))
        (starts b 0 (behind h b (replicate 24 0) (replicate 24 0 ++ (1 ∷ [])) 1 (e ∙ ap (λ (k : ℕ). b ++ replicate k 0) m) refl) refl)
wait_next h b n (suc (suc x)) g e = refuses h (suc (suc x)) _ (bad_sample (record { phase = Waiting n }) (suc (suc x)) (omega arith))

pub start_next : (h b : List ℕ) (d x : ℕ) → h ≡ b ++ (replicate 24 0 ++ replicate (d + 1) 1) → Next h x (step_of (starting d) x)
start_next h b d (suc (suc x)) e = refuses h (suc (suc x)) _ (bad_sample (starting d) (suc (suc x)) (omega arith))
start_next h b d (suc zero) e = go (dec_lt d 14)
  where
    go : Dec (d < 14) → Next h 1 (step_of (starting d) 1)
    go (yes l) =
        goes h 1 _ (Start (d + 1)) (a_sample (starting d) 1 (omega arith) ∙ start_on (d + 1) (omega arith))
        (starts b (d + 1)
        (behind h b (replicate 24 0 ++ replicate (d + 1) 1) (replicate 24 0 ++ replicate (d + 1 + 1) 1) 1 e
        (ap (λ (y : List ℕ). replicate 24 0 ++ y) (snoc (d + 1) 1)))
        refl)
    go (no l) = refuses h 1 _ (a_sample (starting d) 1 (omega arith) ∙ start_late (d + 1) true (omega arith))
start_next h b d zero e = go (dec_lt d 14) (dec_lt d 7)
  where
    go : Dec (d < 14) → Dec (d < 7) → Next h 0 (step_of (starting d) 0)
    go (no l) q = refuses h 0 _ (a_sample (starting d) 0 (omega arith) ∙ start_late (d + 1) false (omega arith))
    go (yes l) (yes q) = refuses h 0 _ (a_sample (starting d) 0 (omega arith) ∙ start_early (d + 1) (omega arith))
    go (yes l) (no q) =
        goes h 0 _ (Bits (past_edge 1 begun false)) (a_sample (starting d) 0 (omega arith) ∙ start_middle (d + 1) (omega arith) (omega arith))
        (follows b (d + 1) [] (plain 1) (omega arith, omega arith) tt (omega arith) (omega arith, omega arith)
        (behind h b (replicate 24 0 ++ replicate (d + 1) 1) (levels_of 0 (d + 1) [] ++ []) 0 e (sym (append-nil (levels_of 0 (d + 1) []))))
        refl)
