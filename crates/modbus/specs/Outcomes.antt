-- The reply to an order (01, 'Modbus'), from what it came to.
-- Assumes nothing: these are definitions.
use Rattle.std.specs.Prelude.{ℕ, cond, ◌||◌, eqb}
use Rattle.word.specs.Frame.{data_invalid, unknown_dataid}
use Rattle.modbus.specs.declared.Form.{Form}
use Rattle.modbus.specs.declared.Form.TheVariants as form
use Rattle.modbus.specs.declared.Order.{Order}
use Rattle.modbus.specs.declared.Outcome.{Outcome}
use Rattle.modbus.specs.declared.Outcome.TheVariants.{Answer, NoAnswer}
use Rattle.modbus.specs.declared.Reply.{Reply}
use Rattle.modbus.specs.declared.Reply.TheVariants.{Exception, Value, Offset, Zero, Whole}

abbrev pub exception_of : Order → ℕ → Reply
exception_of o code = Exception o.line o.function code

-- "exception 04 at once where no such frame went out" (02, Ask 2)
abbrev pub lacking_of : Order → Reply
lacking_of o = exception_of o 0x04

-- "an order already waiting (06, units 1 to 4 only)"
abbrev pub busy_of : Order → Reply
busy_of o = exception_of o 0x06

-- "type 7 is exception 02, type 6 is 04"
unfoldable pub code_of : ℕ → ℕ
code_of t = cond (eqb t unknown_dataid) 0x02 0x04

unfoldable pub ordinary_of : Order → ℕ → Reply → Reply
ordinary_of o t reply = cond (eqb t data_invalid || eqb t unknown_dataid) (exception_of o (code_of t)) reply

unfoldable pub of_invalid : Order → ℕ → Reply → Reply
of_invalid o t reply = cond (eqb t unknown_dataid) (exception_of o (code_of t)) reply

-- the table's third column, a line a form, for a boiler's frame of type t and value v; "Type 6 is a normal reply in the last 17 row;
-- 41 gives types 4 to 7 as normal replies"
unfoldable pub normal_of : Form → Order → ℕ → ℕ → Reply
normal_of form.Value o t v = ordinary_of o t (Value o.line o.function v)
normal_of form.OffsetValue o t v = ordinary_of o t (Offset o.line o.function o.offset v)
normal_of form.OffsetOne o t v = ordinary_of o t (Offset o.line o.function o.offset 0x0001)
normal_of form.Zero o t v = ordinary_of o t (Zero o.line o.function)
normal_of form.Never o t v = exception_of o (code_of t)
normal_of form.ValueOfInvalid o t v = of_invalid o t (Value o.line o.function v)
normal_of form.Whole o t v = Whole o.line o.offset v t

-- "no answer is 0B"
unfoldable pub answer_of : Order → Outcome → Reply
answer_of o (Answer t v) = normal_of o.form o t v
answer_of o NoAnswer = exception_of o 0x0b
