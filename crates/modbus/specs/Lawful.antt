-- What is used of a wrapping; and of a message in whatever wrapping, that becomes an order or gets its reply at once.
-- Assumes nothing: these are definitions.
use Rattle.std.specs.Prelude.{ℕ, ◌+◌, ◌≤◌, ◌<◌, ◌≡◌, ◌⊎◌, List, [], ◌∷◌, length}
use Rattle.refusals.specs.declared.Refusal.{Refusal}
use Rattle.refusals.specs.declared.Refusal.TheVariants.{WrongLength}
use Rattle.word.specs.Checks.{Fails, Passes}
use Rattle.modbus.specs.declared.Form.{Form}
use Rattle.modbus.specs.declared.Form.TheVariants as form
use Rattle.modbus.specs.declared.Order.{Order}
use Rattle.modbus.specs.declared.Reply.{Reply}
use Rattle.modbus.specs.declared.Reply.TheVariants.{Exception, Value}
use Rattle.modbus.specs.Becomes.{Bytes}
use Rattle.modbus.specs.Wrapping.{Wrapping}

-- the two replies with offset and value differ in their function
abbrev pub Coded : ℕ → Form → Type 0
Coded f form.OffsetValue = f ≡ 0x06
Coded f form.OffsetOne = f ≡ 0x10
Coded f form.Value = Unit {0}
Coded f form.Zero = Unit {0}
Coded f form.Never = Unit {0}
Coded f form.ValueOfInvalid = Unit {0}
Coded f form.Whole = Unit {0}

-- "Units 1 to 4 are the lines of the same number", and the function is that of the form
pub record Right (o : Order) : Type 0 where
  pub from : 1 ≤ o.line
  pub upto : o.line ≤ 4
  pub coded : Coded o.function o.form

-- a reply that is given at once is an exception, or unit 5's "0100 (version 1.0)"
pub data GivenAtOnce : Reply → Type 0 where
  exception : (u f code : ℕ) → GivenAtOnce (Exception u f code)
  own : (f : ℕ) → GivenAtOnce (Value 5 f 0x0100)

-- x is one of these
abbrev pub Among : {A : Type 0} → List A → A → Type 0
Among [] x = ⊥
Among (y ∷ ys) x = (x ≡ y) ⊎ Among ys x

pub record Lawful (W : Wrapping) : Type 0 where
  -- what is wrapped unwraps to the same body; where nothing is written there is none
  pub unwraps : (t : ℕ) (b : List ℕ) → W.body (W.wraps t b) ≡ b
  pub empty : W.body [] ≡ []
  -- and to the same transaction: what is replied with it is what is replied with the one that was wrapped
  pub echoes : (t : ℕ) (b c : List ℕ) → W.wraps (W.transaction (W.wraps t b)) c ≡ W.wraps t c
  -- a body of 2 to 254 bytes, wrapped, passes the checks; every other is refused with 11
  pub passes : (t : ℕ) (b : List ℕ) → 2 ≤ length b → length b ≤ 254 → Passes (W.checks (W.wraps t b))
  pub eleven : (t : ℕ) (b : List ℕ) → (length b < 2) ⊎ (254 < length b) → Fails (W.checks (W.wraps t b)) WrongLength
  -- what passes is its own body and transaction, wrapped; and a message of bytes has a body of bytes
  pub rewraps : (s : List ℕ) → Bytes s → Passes (W.checks s) → W.wraps (W.transaction s) (W.body s) ≡ s
  pub bytes : (s : List ℕ) → Bytes s → Bytes (W.body s)
  -- no other refusal is a silence
  pub listed : (s : List ℕ) (r : Refusal) → Fails (W.checks s) r → Among W.silences r
  -- a reply's body has at most 8 bytes, so it fits into 16
  pub fits : (t : ℕ) (b : List ℕ) → length (W.wraps t b) ≤ length b + 8
