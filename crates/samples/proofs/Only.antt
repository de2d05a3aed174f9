-- Nothing else is read: where a frame is given, the samples up to there end with a frame at 01's distances; its word is that of its middle
-- edges, and its two numbers are the smallest and the largest of their distances (02, Ask 3), so they lie between 18 and 23.
-- Assumes nothing.
use mathlib.Core.Path.{◌≡◌, refl, sym, ap, ◌∙◌, subst}
use mathlib.Core.Bool.{Bool, true, false, not, not-not}
use mathlib.Core.List.{List, [], ◌∷◌, ◌++◌, append_assoc, append-nil}
use mathlib.Core.Logic.{◌⊎◌, inl, inr}
use Prim.Native.Nat.{ℕ, zero, suc, ◌+◌, ◌-◌, ◌≤◌, ◌<◌}
use native.Mathlib.Decide.{dec_lt}
use native.Mathlib.Omega.{arith}
use lib.ListN.{length, get_or, take, replicate}
use Rattle.word.proofs.Clash.{clash}
use Rattle.word.specs.declared.Frame.{Frame}
use Rattle.samples.specs.declared.Phase.TheVariants.{Bits}
use Rattle.samples.specs.declared.Answer.{Answer}
use Rattle.samples.specs.declared.Answer.TheVariants as answer
use Rattle.samples.specs.Reader.{Reader, Step}
use Rattle.samples.specs.Reading.{fresh_of, step_of}
use Rattle.samples.specs.Run.{answers_of, answer_at, Answered}
use Rattle.samples.specs.Edges.{level_of, Stretch, plain, crossed, AllAllowed, level_after, leg_samples, levels_of, Heard}
use Rattle.samples.proofs.Cases.{bad_sample}
use Rattle.samples.proofs.Straight.{between}
use Rattle.samples.proofs.Again.{again}
use Rattle.samples.proofs.Stretches.{md, mid, same_level, at_second, at_early, at_gap, at_24, at_other, Open, leg_end, so_far}
use Rattle.samples.proofs.Told.{Told, waits, starts, follows, Next, goes, refuses, snoc, behind, wait_next, start_next}
use Rattle.samples.proofs.ToldEdge.{edge_next}

-- a sample of the level that is there, of the other level, or of neither
level : (c : Bool) (x : ℕ) → ((x ≡ level_of c) ⊎ (x ≡ level_of (not c))) ⊎ (2 ≤ x)
level true zero = inl (inr refl)
level true (suc zero) = inl (inl refl)
level false zero = inl (inl refl)
level false (suc zero) = inl (inr refl)
level c (suc (suc x)) = inr (omega arith)

-- the next sample after a middle edge
module _ (h b : List ℕ) (s : ℕ) (l : List Stretch) (hs : (8 ≤ s) × (s ≤ 14)) (hl : AllAllowed l) (len : length l ≤ 32) where
  abbrev c : Bool
  c = level_after false l

  abbrev k : ℕ
  k = 1 + length l

  -- what it shows of the samples, where the stretch goes on as u
  abbrev Grows : Stretch → ℕ → Stretch → Type 0
  Grows t x u = leg_samples c t ++ (x ∷ []) ≡ leg_samples c u

  further : (t : Stretch) (x : ℕ) (u : Stretch) → h ≡ b ++ (levels_of 0 s l ++ leg_samples c t) → Grows t x u →
      h ++ (x ∷ []) ≡ b ++ (levels_of 0 s l ++ leg_samples c u)
  further t x u e f =
      behind h b (levels_of 0 s l ++ leg_samples c t) (levels_of 0 s l ++ leg_samples c u) x e
      (append_assoc (levels_of 0 s l) (leg_samples c t) (x ∷ []) ∙ ap (λ (y : List ℕ). levels_of 0 s l ++ y) f)

  -- no other edge so far
  module _ (d : ℕ) (o : Open (plain d)) (e : h ≡ b ++ (levels_of 0 s l ++ leg_samples c (plain d))) where
    abbrev at : ℕ → Step
    at x = step_of (mid k (so_far l) (d - 1) c false) x

    plain_same : Dec (d < 24) → Next h (level_of c) (at (level_of c))
    plain_same (no g) = refuses h (level_of c) _ (at_24 k (so_far l) (d - 1) c false c (omega arith))
    plain_same (yes g) =
        let n : d - 1 + 1 ≡ d + 1 - 1 = omega arith in
        goes h (level_of c) _ (Bits (md k (so_far l) (d - 1 + 1) c false)) (same_level k (so_far l) (d - 1) c false (omega arith))
        (follows b s l (plain (d + 1)) hs hl len (omega arith, omega arith)
        (further (plain d) (level_of c) (plain (d + 1)) e (snoc (d - 1) (level_of c) ∙ ap (λ (m : ℕ). replicate m (level_of c)) n))
        (ap (λ (m : ℕ). mid k (so_far l) m c false) n))

    plain_edge : Dec (d < 8) → Dec (d < 15) → Dec (d < 18) → Dec (d < 24) → Next h (level_of (not c)) (at (level_of (not c)))
    plain_edge (yes g) q u v = refuses h (level_of (not c)) _ (at_early k (so_far l) (d - 1) c false (omega arith))
    plain_edge (no g) (yes q) u v =
        let n : d - 1 + 1 ≡ d + 1 - 1 = omega arith in
        let one : 1 ≡ d + 1 - d = omega arith in
        goes h (level_of (not c)) _ (Bits (md k (so_far l) (d - 1 + 1) (not c) true)) (at_other k (so_far l) (d - 1) c (omega arith) (omega arith))
        (follows b s l (crossed d (d + 1)) hs hl len (omega arith, omega arith, omega arith, omega arith)
        (further (plain d) (level_of (not c)) (crossed d (d + 1)) e
        (ap (λ (m : ℕ). replicate (d - 1) (level_of c) ++ replicate m (level_of (not c))) one))
        (ap (λ (m : ℕ). mid k (so_far l) m (not c) true) n))
    plain_edge (no g) (no q) (yes u) v = refuses h (level_of (not c)) _ (at_gap k (so_far l) (d - 1) c false (omega arith) (omega arith))
    plain_edge (no g) (no q) (no u) (yes v) = edge_next h b s l (plain d) hs hl len e (omega arith, omega arith)
    plain_edge (no g) (no q) (no u) (no v) = refuses h (level_of (not c)) _ (at_24 k (so_far l) (d - 1) c false (not c) (omega arith))

    plain_next : (x : ℕ) → Next h x (at x)
    plain_next x = go (level c x)
      where
        go : ((x ≡ level_of c) ⊎ (x ≡ level_of (not c))) ⊎ (2 ≤ x) → Next h x (at x)
        go (inr g) = refuses h x _ (bad_sample (mid k (so_far l) (d - 1) c false) x g)
        go (inl (inl f)) = subst (λ (q : ℕ). Next h q (at q)) (sym f) (plain_same (dec_lt d 24))
        go (inl (inr f)) = subst (λ (q : ℕ). Next h q (at q)) (sym f) (plain_edge (dec_lt d 8) (dec_lt d 15) (dec_lt d 18) (dec_lt d 24))

  -- after the other edge, at distance q
  module _ (q d : ℕ) (o : Open (crossed q d)) (e : h ≡ b ++ (levels_of 0 s l ++ leg_samples c (crossed q d))) where
    abbrev at' : ℕ → Step
    at' x = step_of (mid k (so_far l) (d - 1) (not c) true) x

    crossed_same : Dec (d < 24) → Next h (level_of (not c)) (at' (level_of (not c)))
    crossed_same (no g) = refuses h (level_of (not c)) _ (at_24 k (so_far l) (d - 1) (not c) true (not c) (omega arith))
    crossed_same (yes g) =
        let n : d - 1 + 1 ≡ d + 1 - 1 = omega arith in
        let m : d - q + 1 ≡ d + 1 - q = omega arith in
        goes h (level_of (not c)) _ (Bits (md k (so_far l) (d - 1 + 1) (not c) true)) (same_level k (so_far l) (d - 1) (not c) true (omega arith))
        (follows b s l (crossed q (d + 1)) hs hl len (omega arith, omega arith, omega arith, omega arith)
        (further (crossed q d) (level_of (not c)) (crossed q (d + 1)) e
        (append_assoc (replicate (q - 1) (level_of c)) (replicate (d - q) (level_of (not c))) (level_of (not c) ∷ [])
        ∙ ap (λ (y : List ℕ). replicate (q - 1) (level_of c) ++ y) (snoc (d - q) (level_of (not c)) ∙ ap (λ (j : ℕ). replicate j (level_of (not c))) m)))
        (ap (λ (j : ℕ). mid k (so_far l) j (not c) true) n))

    crossed_edge : Dec (d < 18) → Dec (d < 24) → Next h (level_of (not (not c))) (at' (level_of (not (not c))))
    crossed_edge (yes u) v = refuses h (level_of (not (not c))) _ (at_second k (so_far l) (d - 1) (not c) true (omega arith) refl)
    crossed_edge (no u) (yes v) =
        subst (λ (a : Bool). Next h (level_of a) (at' (level_of a))) (sym (not-not c))
        (edge_next h b s l (crossed q d) hs hl len e (omega arith, omega arith, omega arith, omega arith))
    crossed_edge (no u) (no v) = refuses h (level_of (not (not c))) _ (at_24 k (so_far l) (d - 1) (not c) true (not (not c)) (omega arith))

    crossed_next : (x : ℕ) → Next h x (at' x)
    crossed_next x = go (level (not c) x)
      where
        go : ((x ≡ level_of (not c)) ⊎ (x ≡ level_of (not (not c)))) ⊎ (2 ≤ x) → Next h x (at' x)
        go (inr g) = refuses h x _ (bad_sample (mid k (so_far l) (d - 1) (not c) true) x g)
        go (inl (inl f)) = subst (λ (y : ℕ). Next h y (at' y)) (sym f) (crossed_same (dec_lt d 24))
        go (inl (inr f)) = subst (λ (y : ℕ). Next h y (at' y)) (sym f) (crossed_edge (dec_lt d 18) (dec_lt d 24))

  follow_next : (t : Stretch) (x : ℕ) → Open t → h ≡ b ++ (levels_of 0 s l ++ leg_samples c t) → Next h x (step_of (leg_end k (so_far l) c t) x)
  follow_next (plain d) x o e = plain_next d o e x
  follow_next (crossed q d) x o e = crossed_next q d o e x

told_next : (h : List ℕ) (r : Reader) (x : ℕ) → Told h r → Next h x (step_of r x)
told_next h r x (waits b n g e f) = subst (λ (q : Reader). Next h x (step_of q x)) (sym f) (wait_next h b n x g e)
told_next h r x (starts b d e f) = subst (λ (q : Reader). Next h x (step_of q x)) (sym f) (start_next h b d x e)
told_next h r x (follows b s l t hs hl len o e f) = subst (λ (q : Reader). Next h x (step_of q x)) (sym f) (follow_next h b s l hs hl len t x o e)

-- after an answer the reader is fresh, and nothing of the samples is told
next_told : (h : List ℕ) (r : Reader) (x : ℕ) → Told h r → Told (h ++ (x ∷ [])) (step_of r x).reader
next_told h r x t = go (step_of r x).answer refl
  where
    fresh : Answered r x → Told (h ++ (x ∷ [])) (step_of r x).reader
    fresh a = waits (h ++ (x ∷ [])) 0 (omega arith) (sym (append-nil (h ++ (x ∷ [])))) (again r x a)

    go : (y : Answer) → (step_of r x).answer ≡ y → Told (h ++ (x ∷ [])) (step_of r x).reader
    go answer.Nothing e = (told_next h r x t).on e
    go (answer.Frame f) e = fresh (λ z. clash cc)
    go (answer.Refused x) e = fresh (λ z. clash cc)

from : (h : List ℕ) (r : Reader) (l : List ℕ) (n : ℕ) (f : Frame) → Told h r → get_or (answers_of r l) n answer.Nothing ≡ answer.Frame f →
    Heard (h ++ take (suc n) l) f
unfolding answers_of
from h r [] n f t e = clash cc
from h r (x ∷ l) zero f t e = (told_next h r x t).given f e
from h r (x ∷ l) (suc n) f t e =
    subst (λ (y : List ℕ). Heard y f) (append_assoc h (x ∷ []) (take (suc n) l)) (from (h ++ (x ∷ [])) (step_of r x).reader l n f (next_told h r x t) e)

-- whatever samples come: where a frame is given, at sample number n, the samples up to there end with that frame
pub only : (l : List ℕ) (n : ℕ) (f : Frame) → answer_at l n ≡ answer.Frame f → Heard (take (suc n) l) f
only l n f e = from [] fresh_of l n f (waits [] 0 (omega arith) refl refl) e

-- and "The two lie between 18 and 23" (02, Ask 3)
pub straight : (l : List ℕ) (n : ℕ) (f : Frame) → answer_at l n ≡ answer.Frame f → (18 ≤ f.shortest) × (f.shortest ≤ f.longest) × (f.longest ≤ 23)
straight l n f e = let h = only l n f e in between h.bits h.stop f h.bits_allowed h.stop_allowed h.frame
