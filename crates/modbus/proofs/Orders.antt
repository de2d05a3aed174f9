-- What is known of an order, whatever list was read as one (of bytes or not): it is for a line 1 to 4, that of its unit. Unit 5 never makes one.
-- Assumes nothing.
use Rattle.std.specs.Prelude.{Option, Some, None}
use mathlib.Core.Path.{◌≡◌, refl, sym, ◌∙◌}
use mathlib.Core.Logic.{◌⊎◌, inl, inr}
use mathlib.Core.Bool.{Bool, true, false, cond}
use mathlib.Core.List.{List}
use Prim.Native.Nat.{ℕ, ◌≤◌}
use native.Mathlib.Omega.{arith}
use borrow.Author.Tests.{leb-true, eqb-false}
use lib.Dec.{eqb}
use Rattle.refusals.specs.declared.Refusal.{Refusal}
use Rattle.word.specs.Checks.{Check, judged, Fails, Passes, all}
use Rattle.word.proofs.Checks.{refuses, goes_on, either}
use Rattle.word.proofs.Clash.{clash}
use Rattle.modbus.specs.declared.Order.{Order}
use Rattle.modbus.specs.declared.QuestionType.{QuestionType}
use Rattle.modbus.specs.declared.Reading.TheVariants.{Silent, AtOnce, Accepted}
use Rattle.modbus.specs.declared.Reply.{Reply}
use Rattle.modbus.specs.declared.Reply.TheVariants.{Exception, Value}
use Rattle.modbus.specs.declared.rows.Row.{Row}
use Rattle.modbus.specs.declared.shape.Fields.{Fields}
use Rattle.modbus.specs.Shape.{unit_of, function_of, request_fields}
use Rattle.modbus.specs.Mapping.{
  mapping_rows,
  first_of,
  type_from,
  at_once,
  typed_as,
  ask_of,
  found_as,
  offset_checks,
  mapped_of,
  own_checks,
  own_of,
  silent_checks,
  form_checks,
  body_said,
  form_read,
  body_read,
}
use Rattle.modbus.specs.Wrapping.{Wrapping, reads}

-- where every refusal is another answer, each check has passed
pub passed : {N A : Type 0} (cs : List (Check N)) (refusal : N → A) (next r : A) → ((n : N) → refusal n ≡ r → ⊥) → judged cs refusal next ≡ r
    → Passes cs × (next ≡ r)
passed {N = N} cs refusal next r other e = go (either cs)
  where
    go : ((n : N) × Fails cs n) ⊎ Passes cs → Passes cs × (next ≡ r)
    go (inl f) = absurd (other f.0 (sym (refuses refusal next f.1) ∙ e))
    go (inr p) = (p, sym (goes_on refusal next p) ∙ e)

silent_never : (o : Order) (r : Refusal) → Silent r ≡ Accepted o → ⊥
silent_never o r e = clash cc

at_once_never : (r : Reply) (o : Order) → AtOnce r ≡ Accepted o → ⊥
at_once_never r o e = clash cc

-- and no exception is an order
at_once_no : (u f : ℕ) (o : Order) (n : ℕ) → at_once u f n ≡ Accepted o → ⊥
at_once_no u f o n = at_once_never (Exception u f n) o

own_never : (a : Fields) (o : Order) → own_of a ≡ Accepted o → ⊥
unfolding own_of
own_never a o e =
    let p = passed (own_checks a) (at_once 5 a.function) (AtOnce (Value 5 a.function 0x0100)) (Accepted o) (at_once_no 5 a.function o) e in
    at_once_never (Value 5 a.function 0x0100) o p.1

-- the order is for the line of the request's unit
typed_on : (u : ℕ) (a : Fields) (r : Row) (t : Option QuestionType) (o : Order) → typed_as u a r t ≡ Accepted o → o.line ≡ u
typed_on u a r (Some t) o e = cc
typed_on u a r None o e = absurd (at_once_never (Exception u a.function 0x03) o e)

found_on : (u : ℕ) (a : Fields) (f : Option Row) (o : Order) → found_as u a f ≡ Accepted o → o.line ≡ u
unfolding ask_of
found_on u a (Some r) o e = typed_on u a r (type_from r.asks a.message) o e
found_on u a None o e = absurd (at_once_never (Exception u a.function 0x02) o e)

mapped_on : (u : ℕ) (a : Fields) (o : Order) → mapped_of u a ≡ Accepted o → o.line ≡ u
unfolding mapped_of
mapped_on u a o e =
    let p = passed (offset_checks a) (at_once u a.function) (found_as u a (first_of mapping_rows a)) (Accepted o) (at_once_no u a.function o) e in
    found_on u a (first_of mapping_rows a) o p.1

-- of a body that is read as an order
abbrev OnLine : List ℕ → Order → Type 0
OnLine b o = (o.line ≡ unit_of b) × ((1 ≤ o.line) × (o.line ≤ 4))

taken : (b : List ℕ) (o : Order) → body_read b ≡ Accepted o → OnLine b o
unfolding body_read
taken b o e =
    let u = unit_of b in
    let f = function_of b in
    let one = passed (silent_checks b) Silent (form_read b) (Accepted o) (silent_never o) e in
    let two = passed (form_checks b) (at_once u f) (body_said b) (Accepted o) (at_once_no u f o) one.1 in
    go (eqb u 5) refl one.0 two.1
  where
    go : (five : Bool) → eqb (unit_of b) 5 ≡ five → Passes (silent_checks b)
        → cond five (own_of (request_fields (function_of b) b)) (mapped_of (unit_of b) (request_fields (function_of b) b)) ≡ Accepted o → OnLine b o
    go true h units e = absurd (own_never (request_fields (function_of b) b) o e)
    go false h (all lo (all hi units)) e =
        let other : unit_of b ≡ 5 → ⊥ = eqb-false (unit_of b) 5 h in
        let l : o.line ≡ unit_of b = mapped_on (unit_of b) (request_fields (function_of b) b) o e in
        (l, (omega (arith, leb-true 1 (unit_of b) lo), omega (arith, other, leb-true (unit_of b) 5 hi)))

-- a whole message that is read as an order: it passes, and its body is read so
pub accepted : (W : Wrapping) (s : List ℕ) (o : Order) → reads W s ≡ Accepted o → Passes (W.checks s) × (body_read (W.body s) ≡ Accepted o)
unfolding reads
accepted W s o e = passed (W.checks s) Silent (body_read (W.body s)) (Accepted o) (silent_never o) e

-- "Units 1 to 4 are the lines of the same number"; "Unit 5 .. never makes an order"
pub on_line : (W : Wrapping) (s : List ℕ) (o : Order) → reads W s ≡ Accepted o → (o.line ≡ unit_of (W.body s)) × ((1 ≤ o.line) × (o.line ≤ 4))
on_line W s o e = taken (W.body s) o (accepted W s o e).1
