-- The replies to a request by a row of 01's table are those that the table prints, byte by byte, for every unit, offset and value: to a boiler
-- frame of type 4 to 7, whatever its value, to no answer, where there is no status to send, and where another order waits.
-- Assumes nothing.
use Prim.Native.Nat.{ℕ, ◌%◌, ◌<◌}
use mathlib.Core.Path.{◌≡◌, sym, ap, ◌∙◌}
use mathlib.Core.List.{[]}
use native.Mathlib.Omega.{arith}
use Rattle.modbus.specs.declared.Order.{Order}
use Rattle.modbus.specs.declared.Outcome.TheVariants.{Answer, NoAnswer}
use Rattle.modbus.specs.declared.Reading.{Reading}
use Rattle.modbus.specs.declared.Reading.TheVariants.{Silent, AtOnce, Accepted}
use Rattle.modbus.specs.declared.Reply.TheVariants.{Exception}
use Rattle.modbus.specs.Numbers.{reading_verdict}
use Rattle.modbus.specs.Outcomes.{lacking_of, busy_of, code_of, ordinary_of, of_invalid, normal_of, answer_of}
use Rattle.modbus.specs.Wire.{body_of}
use Rattle.modbus.specs.Table.{
  TableRow,
  row_03,
  row_04,
  row_06,
  row_10,
  row_17_read,
  row_17_write_00,
  row_17_write_02,
  row_17_both_00,
  row_17_both_01,
  row_17_both_02,
  row_41_0000,
  row_41_0010,
  row_41_0020,
  Request,
  asked_in,
  asked_by,
}
use Rattle.modbus.specs.Replied.{ReplyBodies, code, replies_in, replies_to}
use Rattle.modbus.proofs.Verdicts.{reading, typed, reading_back}

-- what is replied to an order, by what it came to; v is the boiler's value
abbrev pub replies : Order → ℕ → ReplyBodies
replies o v =
    record {
      lacking = body_of (lacking_of o);
      busy = body_of (busy_of o);
      four = body_of (answer_of o (Answer 4 v));
      five = body_of (answer_of o (Answer 5 v));
      six = body_of (answer_of o (Answer 6 v));
      seven = body_of (answer_of o (Answer 7 v));
      none = body_of (answer_of o NoAnswer);
    }

module _ (u p w v : ℕ) where
  of : Reading → ReplyBodies
  of (Silent n) = record { lacking = []; busy = []; four = []; five = []; six = []; seven = []; none = [] }
  of (AtOnce r) = record { lacking = []; busy = []; four = []; five = []; six = []; seven = []; none = [] }
  of (Accepted o) = replies o v

  as_replied_in : (r : TableRow) {x : Reading} → x ≡ reading (asked_in r u p w) → of x ≡ replies_in r u p v
  unfolding of reading typed code_of ordinary_of of_invalid normal_of answer_of body_of
  as_replied_in row_03 e = ap of e
  as_replied_in row_04 e = ap of e
  as_replied_in row_06 e = ap of e
  as_replied_in row_10 e = ap of e
  as_replied_in row_17_read e = ap of e
  as_replied_in row_17_write_00 e = ap of e
  as_replied_in row_17_write_02 e = ap of e
  as_replied_in row_17_both_00 e = ap of e
  as_replied_in row_17_both_01 e = ap of e
  as_replied_in row_17_both_02 e = ap of e
  as_replied_in row_41_0000 e = ap of e
  as_replied_in row_41_0010 e = ap of e
  as_replied_in row_41_0020 e = ap of e

pub as_replied : (q : Request) (o : Order) (v : ℕ) → reading_verdict (Accepted o) ≡ asked_by q → replies o v ≡ replies_to q v
unfolding of
as_replied q o v e =
    as_replied_in q.unit q.offset q.value v q.row {x = Accepted o} (sym (reading_back (Accepted o)) ∙ ap reading e)

-- an exception, of whatever code: the function's highest bit is set
pub as_excepted : (u f c : ℕ) → f < 0x80 → body_of (Exception u f c) ≡ code u f c
unfolding body_of
as_excepted u f c low = let e : f % 0x80 ≡ f = omega arith in rw e
