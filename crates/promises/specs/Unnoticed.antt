-- Inputs that change nothing of the box: what comes later is given what it would be given, had the input not come. In the box's words, over
-- histories with that input and without it, in a wrapping W.
-- Assumes nothing: these are definitions.
use Rattle.std.specs.Prelude.{ℕ, suc, ◌≤◌, ◌≡◌, cond, ltb}
use Rattle.turns.specs.Events.{nothing}
use Rattle.modbus.specs.Wrapping.{Wrapping}
use Rattle.promises.specs.Notes.{reply, refused}
use Rattle.promises.specs.Inputs.{Inputs}
use Rattle.promises.specs.History.{given}

-- the inputs h, without number k
abbrev pub without : ℕ → Inputs → Inputs
without k h n = cond (ltb n k) (h n) (h (suc n))

-- input k is as if it hadn't come: nothing goes out on any line, and all that comes later is given the same
pub record Unnoticed (W : Wrapping) (h : Inputs) (k : ℕ) : Type 0 where
  pub out : (l : ℕ) → (given W h k).out l ≡ nothing
  pub later : (n : ℕ) → k ≤ n → given W h (suc n) ≡ given W (without k h) n

pub record Aside (W : Wrapping) (h : Inputs) : Type 0 where
  -- "An exception given at once changes no line", nor the order under way; and so does unit 5's reply
  pub said_at_once : (k bytes : ℕ) → (given W h k).told ≡ reply bytes → Unnoticed W h k
  -- "'None' means that state .. [stays]; a refused tick passes no time"
  pub refusal : (k n : ℕ) → (given W h k).told ≡ refused n → Unnoticed W h k
