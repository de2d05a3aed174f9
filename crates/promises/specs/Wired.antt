-- What a box of the form f tells and writes at once, byte by byte, for each message of bytes, where the inputs h come and s is given to each (modbus, Arrives
-- and Departs): no wrapping is known here, and no reading of a message.
-- Nothing here knows how the box works. Assumes nothing: these are definitions.
use Rattle.std.specs.Prelude.{ℕ, ◌+◌, ◌<◌, ◌≡◌, List, [], ◌∷◌}
use Rattle.places.specs.Bytes.{pair}
use Rattle.modbus.specs.declared.MessageForm.{MessageForm}
use Rattle.modbus.specs.Numbers as verdict
use Rattle.modbus.specs.Becomes.{Bytes}
use Rattle.modbus.specs.Arrives.{Arrives}
use Rattle.modbus.specs.Departs.{in_form}
use Rattle.promises.specs.Notes.{refused}
use Rattle.promises.specs.Inputs.{Inputs, Gifts, Brings}
use Rattle.promises.specs.Demand3.{RepliesAtOnce}

pub record Wired (f : MessageForm) (h : Inputs) (s : Gifts) : Type 0 where
  -- "silence, none"
  pub silent : (k n : ℕ) (m : List ℕ) → Bytes m → Brings m (h k) → Arrives m f (verdict.refused n) → ((s k).told ≡ refused n) × ((s k).wrote ≡ [])
  -- an exception sets the function's highest bit
  pub excepts : (k u fn c : ℕ) (m : List ℕ) → Bytes m → fn < 0x80 → Brings m (h k) → Arrives m f (verdict.exception u fn c) →
      RepliesAtOnce (s k) (in_form f m (u ∷ (fn + 0x80) ∷ c ∷ []))
  -- unit 5: "02, value"
  pub version : (k u fn v : ℕ) (m : List ℕ) → Bytes m → Brings m (h k) → Arrives m f (verdict.two_value u fn v) →
      RepliesAtOnce (s k) (in_form f m (u ∷ fn ∷ 0x02 ∷ pair v []))
