-- Nothing on the line leaves a reader deaf: whatever it holds, after 49 idle samples it is as a fresh one after 24, so the next frame is
-- read, written or at 01's distances. 48 aren't enough.
-- Assumes nothing.
use mathlib.Core.Path.{◌≡◌, refl, sym, ap, ◌∙◌}
use mathlib.Core.Bool.{false}
use mathlib.Core.List.{List, [], ◌∷◌, ◌++◌}
use Prim.Native.Nat.{ℕ, suc, ◌+◌, ◌-◌, ◌^◌, ◌≤◌, ◌<◌, min}
use native.Mathlib.Omega.{arith}
use lib.ListN.{length, length-append, drop, replicate, replicate-append-replicate}
use Rattle.word.specs.declared.Frame.{Frame}
use Rattle.samples.specs.declared.Answer.{Answer}
use Rattle.samples.specs.declared.Answer.TheVariants as answer
use Rattle.samples.specs.Reader.{Reader}
use Rattle.samples.specs.Answers.{WithRefusal, late, frame}
use Rattle.samples.specs.Reading.{fresh_of, waited_of, start_of, middle_of, next_of, step_of}
use Rattle.samples.specs.Run.{answers_of, after_of, none}
use Rattle.samples.specs.Edges.{Stretch, Allowed, AllAllowed, turned, level_after, stretches_samples, signal_of, FrameOf}
use Rattle.samples.specs.Written.{in_samples, bits_of, samples_of}
use Rattle.samples.proofs.Steps.{refusal_in}
use Rattle.samples.proofs.Runs.{answers_append, after_append}
use Rattle.samples.proofs.Settles.{waiting, waits_on, settles}
use Rattle.samples.proofs.Tolerant.{tolerant}
use Rattle.samples.proofs.ReadBack.{read_back}

pub armed_again : (r : Reader) → after_of r (replicate 49 0) ≡ after_of fresh_of (replicate 24 0)
armed_again r =
    let s = settles r.phase in
    let e : min 24 (s.count + 24) ≡ min 24 (0 + 24) = omega arith in
    after_append r (replicate 25 0) (replicate 24 0)
    ∙ ap (λ (q : Reader). after_of q (replicate 24 0)) s.is
    ∙ waits_on 24 s.count s.few
    ∙ ap waiting e
    ∙ sym (waits_on 24 0 (omega arith))

idle_24 : answers_of fresh_of (replicate 24 0) ≡ none 24
unfolding answers_of step_of waited_of
idle_24 = refl

-- what a fresh reader answers after 24 idle samples, any reader does after 49
as_fresh : (r : Reader) (l : List ℕ) (x : List Answer) → answers_of fresh_of (replicate 24 0 ++ l) ≡ none 24 ++ x
    → answers_of r (replicate 49 0 ++ l) ≡ answers_of r (replicate 49 0) ++ x
as_fresh r l x h =
    let q = after_of fresh_of (replicate 24 0) in
    let e : none 24 ++ answers_of q l ≡ none 24 ++ x =
    ap (λ (y : List Answer). y ++ answers_of q l) (sym idle_24) ∙ sym (answers_append fresh_of (replicate 24 0) l) ∙ h in
    answers_append r (replicate 49 0) l
    ∙ ap (λ (y : List Answer). answers_of r (replicate 49 0) ++ y) (ap (λ (p : Reader). answers_of p l) (armed_again r) ∙ ap (drop 24) e)

-- the 680 samples of any word: no answer to the first 670, the frame at the next, and none to the 9 after it
pub recovers : (r : Reader) (w : ℕ) → w < 2 ^ 32
    → answers_of r (replicate 49 0 ++ samples_of w) ≡ answers_of r (replicate 49 0) ++ (none 670 ++ (frame w 20 20 ∷ none 9))
recovers r w h = as_fresh r (samples_of w) (none 670 ++ (frame w 20 20 ∷ none 9)) (read_back w h)

-- and any frame at 01's distances: it is the one of its stretches
pub recovers_line : (r : Reader) (s : ℕ) (l : List Stretch) (t : Stretch) → 8 ≤ s → s ≤ 14 → AllAllowed l → Allowed t → length l ≡ 32
    → turned (level_after false l) t ≡ false
    → (f : Frame) × FrameOf l t f × (answers_of r (replicate 49 0 ++ signal_of s (l ++ (t ∷ [])))
    ≡ answers_of r (replicate 49 0) ++ (none (length (signal_of s (l ++ (t ∷ []))) - 1) ++ (answer.Frame f ∷ [])))
recovers_line r s l t gs hs hl ht len falls =
    let x = signal_of s (l ++ (t ∷ [])) in
    let n : length (replicate 24 0 ++ x) ≡ 24 + length x = length-append (replicate 24 0) x in
    let first : List ℕ = replicate s 1 in
    let rest : List ℕ = stretches_samples false (l ++ (t ∷ [])) in
    let p : length x ≡ length first + suc (length rest) = length-append first (0 ∷ rest) in
    let m : length (replicate 24 0 ++ x) - 1 ≡ 24 + (length x - 1) = omega arith in
    let d = tolerant 0 s l t gs hs hl ht len falls in
    let f = d.0 in (
      f,
      d.1,
      as_fresh r x (none (length x - 1) ++ (answer.Frame f ∷ []))
          (d.2
          ∙ ap (λ (k : ℕ). none k ++ (answer.Frame f ∷ [])) m
          ∙ ap (λ (y : List Answer). y ++ (answer.Frame f ∷ [])) (sym (replicate-append-replicate 24 (length x - 1) answer.Nothing))),
    )

-- 48 aren't enough: a line that falls silent after 8 active samples. The 25th idle sample is refusal 2, 23 are left, and the frame of P1
-- after them is not read.
pub tight : WithRefusal 2 (λ x. answers_of fresh_of (replicate 24 0 ++ (replicate 8 1 ++ (replicate 48 0 ++ samples_of 0x8019_0000))) ≡ none 56 ++ (x ∷ none 703))
unfolding answers_of step_of waited_of start_of middle_of next_of samples_of in_samples bits_of
tight = (refusal_in late, refl, refl)
