-- Errors don't add up: samples whose middle edges keep to 01's distances, each from the one before, are read as the word of those
-- edges, whatever their total length; or refused, where the 34th rises (for Bounds).
-- Assumes nothing.
use mathlib.Core.Path.{◌≡◌, refl, sym, ap, ◌∙◌}
use mathlib.Core.Bool.{Bool, true, false, cond}
use mathlib.Core.List.{List, [], ◌∷◌, ◌++◌, append_assoc}
use Prim.Native.Nat.{ℕ, ◌+◌, ◌-◌, ◌≤◌}
use native.Mathlib.Omega.{arith}
use lib.ListN.{length, length-append}
use Rattle.word.specs.declared.Frame.{Frame}
use Rattle.samples.specs.declared.Answer.{Answer}
use Rattle.samples.specs.declared.Answer.TheVariants as answer
use Rattle.samples.specs.Answers.{no_stop}
use Rattle.samples.specs.Reading.{fresh_of, gives, measured, middle_of, step_of}
use Rattle.samples.specs.Run.{answers_of, after_of, none, Last}
use Rattle.samples.specs.Edges.{level_of, Stretch, plain, crossed, Allowed, AllAllowed, turned, level_after, leg_samples, levels_of, distance_of}
use Rattle.samples.specs.Edges.{FrameOf}
use Rattle.samples.proofs.Cases.{stop_rises, stop_falls}
use Rattle.samples.proofs.Runs.{Quiet, ending, ending_after}
use Rattle.samples.proofs.Stretches.{allowed_open, after_leg, leg_end, leg_edge, so_far, quiet_leg, line_last}
use Rattle.samples.proofs.Straight.{frame_of, one_frame}

-- 24 idle samples or more, a start bit, 32 stretches, and the one to the 34th middle edge
module _ (n s : ℕ) (l : List Stretch) (t : Stretch) (gs : 8 ≤ s) (hs : s ≤ 14) (hl : AllAllowed l) (ht : Allowed t) (len : length l ≡ 32) where
  abbrev a : Bool
  a = level_after false l

  abbrev line : List ℕ
  line = levels_of n s (l ++ (t ∷ []))

  abbrev before_last : List ℕ
  before_last = levels_of n s l ++ leg_samples a t

  split : line ≡ before_last ++ (level_of (turned a t) ∷ [])
  split =
      line_last n s l t
      ∙ sym (append_assoc (levels_of n s l) (leg_samples a t) (level_of (turned a t) ∷ []))

  before_length : length before_last ≡ length line - 1
  before_length =
      let h : length line ≡ length before_last + 1 = ap length split ∙ length-append before_last (level_of (turned a t) ∷ []) in
      omega arith

  quiet : Quiet fresh_of before_last (leg_end (1 + length l) (so_far l) a t)
  quiet = quiet_leg n s l gs hs hl (omega arith) t (allowed_open t ht)

  stop : (k : ℕ) (f : Frame) (t : Stretch) (b : Bool) → 33 ≤ k → middle_of (after_leg k f a t) (distance_of t) b ≡ gives (cond b no_stop (answer.Frame (measured f (distance_of t))))
  stop k f (plain d) true h = stop_rises (after_leg k f a (plain d)) d true h refl
  stop k f (plain d) false h = stop_falls (after_leg k f a (plain d)) d false h refl
  stop k f (crossed e d) true h = stop_rises (after_leg k f a (crossed e d)) d true h refl
  stop k f (crossed e d) false h = stop_falls (after_leg k f a (crossed e d)) d false h refl

  -- what is given there, where it falls
  abbrev told : Answer
  told = cond (turned a t) no_stop (answer.Frame (measured (so_far l) (distance_of t)))

  last : step_of (leg_end (1 + length l) (so_far l) a t) (level_of (turned a t)) ≡ gives told
  last = leg_edge (1 + length l) (so_far l) a t ht ∙ stop (1 + length l) (so_far l) t (turned a t) (omega arith)

  -- the one answer comes at the last sample
  judged : Last line told
  judged =
      ap (answers_of fresh_of) split ∙ ending (level_of (turned a t)) told quiet last
      ∙ ap (λ (k : ℕ). none k ++ (told ∷ [])) before_length

  -- a frame is given, and it is the one of these stretches
  pub given : (f : Frame) → FrameOf l t f → turned (level_after false l) t ≡ false → Last line (answer.Frame f)
  given f h falls =
      judged
      ∙ ap (λ (b : Bool). none (length line - 1) ++ (cond b no_stop (answer.Frame (measured (so_far l) (distance_of t))) ∷ [])) falls
      ∙ ap (λ (g : Frame). none (length line - 1) ++ (answer.Frame g ∷ [])) (one_frame l t (measured (so_far l) (distance_of t)) f (frame_of l t ht len) h)

  pub tolerant : turned (level_after false l) t ≡ false → (f : Frame) × FrameOf l t f × Last line (answer.Frame f)
  tolerant falls =
      let f = measured (so_far l) (distance_of t) in
      (f, frame_of l t ht len, given f (frame_of l t ht len) falls)

  pub rising : turned (level_after false l) t ≡ true → Last line no_stop
  rising rises =
      judged ∙ ap (λ (b : Bool). none (length line - 1) ++ (cond b no_stop (answer.Frame (measured (so_far l) (distance_of t))) ∷ [])) rises

  pub fresh_again : after_of fresh_of line ≡ fresh_of
  fresh_again = ap (after_of fresh_of) split ∙ ending_after (level_of (turned a t)) told quiet last
