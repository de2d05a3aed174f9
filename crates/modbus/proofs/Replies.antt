-- A reply's body: at most 8 bytes, so a room of 16 always suffices; where there is a value, it is the one that the order came to.
-- Assumes nothing.
use mathlib.Core.Path.{◌≡◌, refl}
use mathlib.Core.Bool.{Bool, true, false, cond, ◌||◌}
use mathlib.Core.List.{[], ◌∷◌}
use Prim.Native.Nat.{ℕ, ◌*◌, ◌%◌, ◌≤◌}
use native.Mathlib.Omega.{arith}
use lib.Dec.{lit≤, eqb}
use lib.ListN.{length, get_or}
use Rattle.places.specs.Bytes.{pair_at, pair}
use Rattle.places.proofs.Place.{pair_back}
use Rattle.modbus.specs.declared.Form.{Form}
use Rattle.modbus.specs.declared.Form.TheVariants as form
use Rattle.modbus.specs.declared.Order.{Order}
use Rattle.modbus.specs.declared.Outcome.TheVariants.{Answer}
use Rattle.modbus.specs.declared.Reply.{Reply}
use Rattle.modbus.specs.declared.Reply.TheVariants.{Exception, Value, Offset, Zero, Whole}
use Rattle.modbus.specs.Outcomes.{exception_of, code_of, ordinary_of, of_invalid, normal_of, answer_of}
use Rattle.modbus.specs.Wire.{body_of, ValueAt, value, offset_value, whole}
use Rattle.modbus.specs.Lawful.{Coded}

-- no reply of 01 has a longer body
pub short_body : (r : Reply) → length (body_of r) ≤ 8
unfolding body_of
short_body (Exception u f c) = lit≤ tt
short_body (Value u f v) = lit≤ tt
short_body (Offset u f o v) = lit≤ tt
short_body (Zero u f) = lit≤ tt
short_body (Whole u o v t) = lit≤ tt

-- ---- the replies to an answer of value v

data ReplyTo (o : Order) (v : ℕ) : Reply → Type 0 where
  exception : (code : ℕ) → ReplyTo o v (exception_of o code)
  plain : ReplyTo o v (Value o.line o.function v)
  from_boiler : ReplyTo o v (Offset o.line o.function o.offset v)
  one : o.function ≡ 0x10 → ReplyTo o v (Offset o.line o.function o.offset 0x0001)
  zero : ReplyTo o v (Zero o.line o.function)
  all : (t : ℕ) → ReplyTo o v (Whole o.line o.offset v t)

one_of : (o : Order) (v : ℕ) (b : Bool) (x y : Reply) → ReplyTo o v x → ReplyTo o v y → ReplyTo o v (cond b x y)
one_of o v true x y p q = p
one_of o v false x y p q = q

reply_to_lem : (o : Order) (t v : ℕ) (m : Form) → Coded o.function m → ReplyTo o v (normal_of m o t v)
unfolding normal_of ordinary_of of_invalid
reply_to_lem o t v form.Value c = one_of o v (eqb t 6 || eqb t 7) _ _ (exception (code_of t)) plain
reply_to_lem o t v form.OffsetValue c = one_of o v (eqb t 6 || eqb t 7) _ _ (exception (code_of t)) from_boiler
reply_to_lem o t v form.OffsetOne c = one_of o v (eqb t 6 || eqb t 7) _ _ (exception (code_of t)) (one c)
reply_to_lem o t v form.Zero c = one_of o v (eqb t 6 || eqb t 7) _ _ (exception (code_of t)) zero
reply_to_lem o t v form.Never c = exception (code_of t)
reply_to_lem o t v form.ValueOfInvalid c = one_of o v (eqb t 7) _ _ (exception (code_of t)) plain
reply_to_lem o t v form.Whole c = all t

-- no exception has a value
pub no_value : (u f code p : ℕ) → ValueAt (body_of (Exception u f code)) p → ⊥
unfolding body_of
no_value u f code p (value n) = omega arith
no_value u f code p (offset_value n is) = omega arith
no_value u f code p (whole n) = omega arith

-- a reply that has a value has this one
module _ (o : Order) (v : ℕ) where
  reply_carries : (p : ℕ) {r : Reply} → ReplyTo o v r → ValueAt (body_of r) p → (get_or (body_of r) 0 0 ≡ o.line) × (pair_at (body_of r) p ≡ v)
  unfolding body_of
  reply_carries p (exception code) has = absurd (no_value o.line o.function code p has)
  reply_carries p plain (value n) = (refl, pair_back (o.line ∷ o.function ∷ 0x02 ∷ []) [] v)
  reply_carries p plain (offset_value n f) = absurd (omega arith)
  reply_carries p plain (whole n) = absurd (omega arith)
  reply_carries p from_boiler (value n) = absurd (omega arith)
  reply_carries p from_boiler (offset_value n f) = (refl, pair_back (o.line ∷ o.function ∷ pair o.offset []) [] v)
  reply_carries p from_boiler (whole n) = absurd (omega arith)
  reply_carries p (one is) (value n) = absurd (omega arith)
  reply_carries p (one is) (offset_value n f) = absurd (omega arith)
  reply_carries p (one is) (whole n) = absurd (omega arith)
  reply_carries p zero (value n) = absurd (omega arith)
  reply_carries p zero (offset_value n f) = absurd (omega arith)
  reply_carries p zero (whole n) = absurd (omega arith)
  reply_carries p (all t) (value n) = absurd (omega arith)
  reply_carries p (all t) (offset_value n f) = absurd (omega arith)
  reply_carries p (all t) (whole n) = (refl, pair_back (o.line ∷ 0x41 ∷ pair o.offset []) (0x00 ∷ (t % 16 * 16) ∷ []) v)

  pub carries : Coded o.function o.form → (t p : ℕ) → ValueAt (body_of (answer_of o (Answer t v))) p →
      (get_or (body_of (answer_of o (Answer t v))) 0 0 ≡ o.line) × (pair_at (body_of (answer_of o (Answer t v))) p ≡ v)
  unfolding answer_of
  carries c t p has = reply_carries p (reply_to_lem o t v o.form c) has
