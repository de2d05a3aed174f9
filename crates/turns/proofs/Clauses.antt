-- What follows for whatever can be seen of a history (`View`), once each accepted order is open or has its outcome: the outcome comes in time, an
-- order has one, an outcome is one order's, and an outcome that is said while an order is under way is that order's.
-- Assumes nothing.
use Prim.Native.Nat.{ℕ, suc, ◌≤◌, ◌<◌}
use mathlib.Core.Path.{◌≡◌, subst}
use mathlib.Core.Logic.{◌⊎◌, ⊎_elim}
use native.Mathlib.Omega.{arith}
use Rattle.word.specs.declared.Frame.{Frame}
use Rattle.turns.specs.Promise.{View, ticked, Accepted, Ending, answered, silent, Served, Open, UnderWay}
use Rattle.turns.proofs.Clock.{last_or, meet}

module _ (B : ℕ) {W : Type 0} (H : View W) (says_answer : (w : W) (k : ℕ) (b : Frame) (n : ℕ) → H.Answer w k b n → H.Ends k)
    (says_none : (w : W) (k n : ℕ) → H.NoAnswer w k n → H.Ends k) where
  pub ended : (i k : ℕ) (w : W) → Served B H i w k → H.Ends k
  ended i k w v = go v.ending
    where
      go : Ending H w v.j v.q k (ticked H i k) → H.Ends k
      go (answered b an e) = says_answer w k b (ticked H i k) e
      go (silent t e o) = says_none w k (ticked H i k) o

  -- an order has at most one outcome
  pub once : (i k m : ℕ) (w : W) → Served B H i w k → Served B H i w m → k ≡ m
  once i k m w x y =
      meet k m (λ l. y.only k (omega (arith, x.sending, x.later)) l (ended i k w x)) (λ g. x.only m (omega (arith, y.sending, y.later)) g (ended i m w y))

  -- an outcome is one order's
  pub whose : (i j k : ℕ) (v w : W) → Accepted H i v → Accepted H j w → Served B H i v k → Served B H j w k → i ≡ j
  whose i j k v w a b x y =
      meet i j (λ l. x.alone j l (omega (arith, y.sending, y.later)) b.taken) (λ g. y.alone i g (omega (arith, x.sending, x.later)) a.taken)

  abbrev Done : ℕ → W → ℕ → Type 0
  Done i w n = (k : ℕ) × (k < n) × Served B H i w k

  module _ (each : (i n : ℕ) (w : W) → Accepted H i w → i < n → Open B H i w n ⊎ Done i w n) where
    -- once B ticks have come after its acceptance, an order has its outcome
    pub within_time : (i n : ℕ) (w : W) → Accepted H i w → i ≤ n → B ≤ ticked H i n → (k : ℕ) × (k ≤ n) × Served B H i w k
    within_time i n w acc le late =
        ⊎_elim (λ o. absurd (omega (arith, o.soon))) (λ e. (e.0, omega (arith, e.1), e.2)) (each i (suc n) w acc (omega arith))

    -- an outcome is that of the order under way
    pub ends_it : (k : ℕ) → H.Ends k → (u : UnderWay H k) → Served B H u.i u.w k
    ends_it k on u =
        ⊎_elim (λ o. absurd (o.only k u.before (omega arith) on)) (λ d. now d) (each u.i (suc k) u.w u.accepted (omega (arith, u.before)))
      where
        now : Done u.i u.w (suc k) → Served B H u.i u.w k
        now d =
            ⊎_elim
            (λ l. absurd (u.waiting d.0 (omega (arith, d.2.sending, d.2.later)) l (ended u.i d.0 u.w d.2)))
            (λ e. subst (λ (m : ℕ). Served B H u.i u.w m) e d.2)
            (last_or d.0 k d.1)
