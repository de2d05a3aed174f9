-- What a middle edge adds to what the reader holds: the stretch before it is whole, and with the 34th so is the frame.
-- Assumes nothing.
use mathlib.Core.Path.{◌≡◌, refl, sym, ap, ap₂, ◌∙◌}
use mathlib.Core.Bool.{Bool, true, false}
use mathlib.Core.List.{List, [], ◌∷◌, ◌++◌, append_assoc, append-nil}
use Prim.Native.Nat.{ℕ, ◌+◌, ◌≤◌, ◌<◌}
use native.Mathlib.Decide.{dec_lt}
use native.Mathlib.Omega.{arith}
use lib.ListN.{length, length-append}
use Rattle.word.specs.declared.Frame.{Frame}
use Rattle.samples.specs.declared.Phase.TheVariants.{Bits}
use Rattle.samples.specs.declared.Answer.TheVariants as answer
use Rattle.samples.specs.Reader.{Step}
use Rattle.samples.specs.Answers.{no_stop}
use Rattle.samples.specs.Reading.{gives, goes_on, begun, past_edge, measured, with_bit, middle_of, step_of}
use Rattle.samples.specs.Edges.{level_of, Stretch, plain, crossed, Allowed, AllAllowed, turned, level_after, leg_samples, levels_of, distance_of}
use Rattle.samples.proofs.Cases.{next_bit, stop_rises, stop_falls}
use Rattle.samples.proofs.Stretches.{level_last, all_allowed, mid, after_leg, leg_end, leg_edge, one_on, shifted_by, so_far}
use Rattle.samples.proofs.Stretches.{line_last}
use Rattle.samples.proofs.Straight.{frame_of}
use Rattle.samples.proofs.Told.{follows, Next, goes, refuses, ends, behind}

shifted_last : (f : Frame) (a : Bool) (l : List Stretch) (t : Stretch) →
    shifted_by f a (l ++ (t ∷ [])) ≡ one_on (shifted_by f a l) (level_after a l) t
shifted_last f a [] t = refl
shifted_last f a (u ∷ l) t = shifted_last (one_on f a u) (turned a u) l t

-- the middle edge at the end of a stretch
module _ (h b : List ℕ) (s : ℕ) (l : List Stretch) (t : Stretch) (hs : (8 ≤ s) × (s ≤ 14)) (hl : AllAllowed l) (len : length l ≤ 32)
    (e : h ≡ b ++ (levels_of 0 s l ++ leg_samples (level_after false l) t)) (ht : Allowed t) where
  abbrev c : Bool
  c = level_after false l

  abbrev x : ℕ
  x = level_of (turned c t)

  abbrev y : Step
  y = step_of (leg_end (1 + length l) (so_far l) c t) x

  longer : h ++ (x ∷ []) ≡ b ++ levels_of 0 s (l ++ (t ∷ []))
  longer =
      behind h b (levels_of 0 s l ++ leg_samples c t) (levels_of 0 s (l ++ (t ∷ []))) x e
      (append_assoc (levels_of 0 s l) (leg_samples c t) (x ∷ []) ∙ sym (line_last 0 s l t))

  edge : y ≡ middle_of (after_leg (1 + length l) (so_far l) c t) (distance_of t) (turned c t)
  edge = leg_edge (1 + length l) (so_far l) c t ht

  next : (k : ℕ) (f : Frame) (t : Stretch) (a : Bool) → k < 33 → middle_of (after_leg k f c t) (distance_of t) a ≡ goes_on (Bits (past_edge (k + 1) (with_bit (measured f (distance_of t)) a) a))
  next k f (plain d) a g = next_bit (after_leg k f c (plain d)) d a g
  next k f (crossed q d) a g = next_bit (after_leg k f c (crossed q d)) d a g

  rises : (k : ℕ) (f : Frame) (t : Stretch) (a : Bool) → 33 ≤ k → a ≡ true → middle_of (after_leg k f c t) (distance_of t) a ≡ gives no_stop
  rises k f (plain d) a g e = stop_rises (after_leg k f c (plain d)) d a g e
  rises k f (crossed q d) a g e = stop_rises (after_leg k f c (crossed q d)) d a g e

  falls : (k : ℕ) (f : Frame) (t : Stretch) (a : Bool) → 33 ≤ k → a ≡ false → middle_of (after_leg k f c t) (distance_of t) a ≡ gives (answer.Frame (measured f (distance_of t)))
  falls k f (plain d) a g e = stop_falls (after_leg k f c (plain d)) d a g e
  falls k f (crossed q d) a g e = stop_falls (after_leg k f c (crossed q d)) d a g e

  reader : length l < 32 → record { phase = Bits (past_edge (1 + length l + 1) (one_on (so_far l) c t) (turned c t)) }
      ≡ leg_end (1 + length (l ++ (t ∷ []))) (so_far (l ++ (t ∷ []))) (level_after false (l ++ (t ∷ []))) (plain 1)
  reader g =
      let n : 1 + length l + 1 ≡ 1 + length (l ++ (t ∷ [])) = let m = length-append l (t ∷ []) in omega arith in
      ap (λ (k : ℕ). mid k (one_on (so_far l) c t) 0 (turned c t) false) n
      ∙ ap₂ (λ (f : Frame) (a : Bool). mid (1 + length (l ++ (t ∷ []))) f 0 a false) (sym (shifted_last begun false l t)) (sym (level_last false l t))

  pub edge_next : Next h x y
  edge_next = go (dec_lt (length l) 32)
    where
      last : length l ≡ 32 → (a : Bool) → turned c t ≡ a → Next h x y
      last n true f = refuses h x y (edge ∙ rises (1 + length l) (so_far l) t (turned c t) (omega arith) f)
      last n false f =
          ends h x y (measured (so_far l) (distance_of t)) (edge ∙ falls (1 + length l) (so_far l) t (turned c t) (omega arith) f)
          (record {
            before = b;
            start = s;
            bits = l;
            stop = t;
            made = longer;
            start_allowed = hs;
            bits_allowed = hl;
            stop_allowed = ht;
            count = n;
            falls = f;
            frame = frame_of l t ht n;
          })

      go : Dec (length l < 32) → Next h x y
      go (yes g) =
          goes h x y (Bits (past_edge (1 + length l + 1) (one_on (so_far l) c t) (turned c t)))
          (edge ∙ next (1 + length l) (so_far l) t (turned c t) (omega arith))
          (follows b s (l ++ (t ∷ [])) (plain 1) hs (all_allowed l (t ∷ []) hl (ht, tt)) (let n =
          length-append l (t ∷ []) in omega arith) (omega arith, omega arith)
          (longer ∙ ap (λ (z : List ℕ). b ++ z) (sym (append-nil (levels_of 0 s (l ++ (t ∷ []))))))
          (reader g))
      go (no g) = last (omega arith) (turned c t) refl
