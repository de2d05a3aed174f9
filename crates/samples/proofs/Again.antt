-- Nothing older than the last answer is kept: after an answer the reader equals the one that waits, count 0. So what is proved of a
-- fresh reader holds of one that has just answered. And a refusal's number is 1 to 4.
-- Assumes nothing.
use mathlib.Core.Path.{◌≡◌, refl, sym, ap, ◌∙◌}
use mathlib.Core.List.{List, ◌++◌, ◌∷◌}
use Prim.Native.Nat.{ℕ, zero, suc, ◌+◌, ◌^◌, ◌≤◌, ◌<◌}
use native.Mathlib.Omega.{arith}
use lib.ListN.{replicate}
use Rattle.word.proofs.Clash.{clash}
use Rattle.refusals.specs.declared.Refusal.{Refusal}
use Rattle.refusals.specs.Numbers.{number_of}
use Rattle.samples.specs.declared.Answer.{Answer}
use Rattle.samples.specs.declared.Phase.TheVariants.{Waiting}
use Rattle.samples.proofs.Cases.{more_idle, too_soon, a_sample}
use Rattle.samples.specs.declared.Answer.TheVariants.{Nothing, Refused}
use Rattle.samples.specs.Reader.{Reader, Step}
use Rattle.samples.specs.Answers.{frame}
use Rattle.samples.specs.Reading.{fresh_of, goes_on, step_of}
use Rattle.samples.specs.Run.{Answered, answers_of, none}
use Rattle.samples.specs.Written.{samples_of}
use Rattle.samples.proofs.Steps.{every}
use Rattle.samples.proofs.ReadBack.{read_back}

pub again : (r : Reader) (s : ℕ) → Answered r s → (step_of r s).reader ≡ fresh_of
again = every (λ x. (x.answer ≡ Nothing → ⊥) → x.reader ≡ fresh_of) (λ p h. absurd (h refl)) (λ w h. refl) (λ n g l h. refl)

-- so two readers that have just answered, whatever came before, answer alike from then on
pub forgotten : (r q : Reader) (s t : ℕ) → Answered r s → Answered q t → (l : List ℕ) →
    answers_of (step_of r s).reader l ≡ answers_of (step_of q t).reader l
forgotten r q s t h g l = ap (λ (x : Reader). answers_of x l) (again r s h ∙ sym (again q t g))

-- what is written is read, also by a reader that has just answered
pub read_back_again : (r : Reader) (s : ℕ) → Answered r s → (w : ℕ) → w < 2 ^ 32
    → answers_of (step_of r s).reader (replicate 24 0 ++ samples_of w) ≡ none (24 + 670) ++ (frame w 20 20 ∷ none 9)
read_back_again r s h w f = ap (λ (q : Reader). answers_of q (replicate 24 0 ++ samples_of w)) (again r s h) ∙ read_back w f

-- "1, 2, 3, 4: samples, as above": whatever the reader holds and whatever the sample is, a refusal has one of these numbers
pub numbers : (r : Reader) (s : ℕ) (x : Refusal) → (step_of r s).answer ≡ Refused x → (1 ≤ number_of x) × (number_of x ≤ 4)
numbers =
    every (λ y. (x : Refusal) → y.answer ≡ Refused x → (1 ≤ number_of x) × (number_of x ≤ 4)) (λ p x e. clash cc) (λ w x e. clash cc)
    (λ m g h x e. let f : number_of m ≡ number_of x = cc in (omega arith, omega arith))

-- "waits for 24 idle samples in a row; .. an active one starts the count again": nothing is said to it, and the reader is as a fresh one
pub counts_again : (n : ℕ) (l : List ℕ) → n < 24 → answers_of fresh_of (replicate n 0 ++ (1 ∷ l)) ≡ none (suc n) ++ answers_of fresh_of l
unfolding answers_of
counts_again n l h = go n 0 (omega arith)
  where
    go : (k m : ℕ) → m + k < 24 → answers_of (record { phase = Waiting m }) (replicate k 0 ++ (1 ∷ l)) ≡ none (suc k) ++ answers_of fresh_of l
    go zero m g = ap (λ (s : Step). s.answer ∷ answers_of s.reader l) (a_sample (record { phase = Waiting m }) 1 (omega arith) ∙ ap goes_on (too_soon m (omega arith)))
    go (suc k) m g =
        ap (λ (s : Step). s.answer ∷ answers_of s.reader (replicate k 0 ++ (1 ∷ l)))
        (a_sample (record { phase = Waiting m }) 0 (omega arith) ∙ ap goes_on (more_idle m (omega arith)))
        ∙ ap (λ (x : List Answer). Nothing ∷ x) (go k (m + 1) (omega arith))
