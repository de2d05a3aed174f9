-- An exception given at once, unit 5's reply and a refusal leave the box as it was, so whatever comes later is given the same without them.
-- Assumes nothing.
use Prim.Native.Nat.{ℕ, zero, suc, ◌≤◌, ◌<◌}
use mathlib.Core.Path.{◌≡◌, refl, sym, ap, ◌∙◌, subst}
use mathlib.Core.Logic.{⊎_elim}
use mathlib.Core.Bool.{Bool, cond}
use native.Mathlib.Omega.{arith}
use borrow.Author.Tests.{lt-ltb, le-ltb}
use Rattle.turns.specs.Events.{nothing}
use Rattle.turns.proofs.Clock.{last_or}
use Rattle.modbus.specs.Wrapping.{Wrapping}
use Rattle.modbus.specs.Lawful.{Lawful}
use Rattle.promises.specs.Box.{Gateway}
use Rattle.promises.specs.Inputs.{Inputs}
use Rattle.promises.specs.History.{next, gift_of, box_at, given}
use Rattle.promises.specs.Unnoticed.{without, Unnoticed, Aside}
use Rattle.promises.proofs.Refused.{demand1}
use Rattle.promises.proofs.Tells.{replies}

module _ (W : Wrapping) (h : Inputs) (k : ℕ) where
  -- before input k, and after it
  before : (n : ℕ) → n < k → without k h n ≡ h n
  before n lt = ap (λ (b : Bool). cond b (h n) (h (suc n))) (lt-ltb n k lt)

  after : (n : ℕ) → k ≤ n → without k h n ≡ h (suc n)
  after n le = ap (λ (b : Bool). cond b (h n) (h (suc n))) (le-ltb n k le)

  box_before : (n : ℕ) → n ≤ k → box_at W (without k h) n ≡ box_at W h n
  unfolding box_at
  box_before zero le = refl
  box_before (suc n) le =
      ap (λ (g : Gateway). next W g (without k h n)) (box_before n (omega arith)) ∙ ap (next W (box_at W h n)) (before n (omega arith))

  module _ (same : next W (box_at W h k) (h k) ≡ box_at W h k) where
    here : (n : ℕ) → k ≡ n → box_at W h (suc n) ≡ box_at W (without k h) n
    unfolding box_at
    here n is = subst (λ (i : ℕ). box_at W h (suc i) ≡ box_at W (without k h) i) is (same ∙ sym (box_before k (omega arith)))

    on : (n : ℕ) → k ≤ n → box_at W h (suc n) ≡ box_at W (without k h) n → box_at W h (suc (suc n)) ≡ box_at W (without k h) (suc n)
    unfolding box_at
    on n le e = ap (λ (g : Gateway). next W g (h (suc n))) e ∙ ap (next W (box_at W (without k h) n)) (sym (after n le))

    box_after : (n : ℕ) → k ≤ n → box_at W h (suc n) ≡ box_at W (without k h) n
    box_after zero le = here zero (omega arith)
    box_after (suc n) le = ⊎_elim (λ lt. on n (omega arith) (box_after n (omega arith))) (here (suc n)) (last_or k (suc n) (omega arith))

    unnoticed : ((l : ℕ) → (given W h k).out l ≡ nothing) → Unnoticed W h k
    unnoticed out = record {
      out = out;
      later = λ n le. ap (λ (g : Gateway). gift_of W g (h (suc n))) (box_after n le) ∙ ap (gift_of W (box_at W (without k h) n)) (sym (after n le));
    }

pub aside : {W : Wrapping} → Lawful W → (h : Inputs) → Aside W h
aside {W} law h = record {
  said_at_once = λ k c e. let r = replies law h k c e in unnoticed W h k r.state r.out;
  refusal = λ k n e. let s = (demand1 W (box_at W h k)).none (h k) n e in unnoticed W h k s.state s.out;
}
