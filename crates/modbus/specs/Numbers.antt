-- What becomes of a message, of a reply and of its room, in 01's numbers and values: 'Numbered answers', the exception codes, the table's
-- second and third column. Nothing is lost: two answers with one verdict are equal (proofs/Verdicts).
-- Assumes nothing: these are definitions.
use Rattle.refusals.specs.declared.Refusal.{Refusal}
use Rattle.refusals.specs.Numbers.{number_of}
use Rattle.std.specs.Prelude.{ℕ, Bool, Result, Ok, Err}
use Rattle.modbus.specs.declared.Form.{Form}
use Rattle.modbus.specs.declared.Reading.{Reading}
use Rattle.modbus.specs.declared.Reading.TheVariants.{Silent, AtOnce, Accepted}
use Rattle.modbus.specs.declared.Reply.{Reply}
use Rattle.modbus.specs.declared.Reply.TheVariants.{Exception, Value, Offset, Zero, Whole}
use Rattle.modbus.specs.Mapping.{type_number}

pub data Verdict : Type 0 where
  -- 11 to 14 of a message, 15 of a room
  refused : (number : ℕ) → Verdict
  -- an exception's code, for its unit and function
  exception : (unit function code : ℕ) → Verdict
  -- after unit and function "02, value"
  two_value : (unit function v : ℕ) → Verdict
  -- "offset, value from the boiler", and "offset, 0001"
  offset_value : (unit function offset v : ℕ) → Verdict
  -- "00"
  nought : (unit function : ℕ) → Verdict
  -- 41: "offset, value, 00, type times 16"
  offset_value_type : (unit offset v type : ℕ) → Verdict
  -- the question on the line, with its type's number, and whether it is a read alone; and what the reply will need
  order : (line type id v : ℕ) (alone : Bool) (function offset : ℕ) → Form → Verdict
  -- so many bytes in front of the room
  bytes : (count : ℕ) → Verdict

abbrev pub reply_verdict : Reply → Verdict
reply_verdict (Exception u f c) = exception u f c
reply_verdict (Value u f v) = two_value u f v
reply_verdict (Offset u f o v) = offset_value u f o v
reply_verdict (Zero u f) = nought u f
reply_verdict (Whole u o v t) = offset_value_type u o v t

abbrev pub reading_verdict : Reading → Verdict
reading_verdict (Silent r) = refused (number_of r)
reading_verdict (AtOnce r) = reply_verdict r
reading_verdict (Accepted o) =
    order o.line (type_number o.question.t) o.question.id o.question.value o.question.alone o.function o.offset o.form

abbrev pub written_verdict : Result ℕ Refusal → Verdict
written_verdict (Ok n) = bytes n
written_verdict (Err r) = refused (number_of r)
