-- 01's table ('Modbus') from the asking side: for each row the body of a request (unit, function, data) and the question that it puts on the
-- line (its replies: Replied). No reader of messages is known here: what the box reads is held to this (proofs/Sent).
-- Assumes nothing: these are definitions.
use Rattle.std.specs.Prelude.{ℕ, ◌%◌, ◌≤◌, ◌<◌, true, false, List, [], ◌∷◌}
use Rattle.places.specs.Bytes.{pair}
use Rattle.modbus.specs.declared.Form.TheVariants as form
use Rattle.modbus.specs.Numbers.{Verdict, order}

-- the table's rows in its order; where a row names several functions or messages, one for each
pub data TableRow : Type 0 where
  row_03 row_04 row_06 row_10 : TableRow
  row_17_read row_17_write_00 row_17_write_02 : TableRow
  row_17_both_00 row_17_both_01 row_17_both_02 : TableRow
  row_41_0000 row_41_0010 row_41_0020 : TableRow

-- A row of the table and the numbers of a request: the unit, the offset, and the value where the row has one. `other` is the offset that isn't
-- looked at ("with one, only that side's offset is looked at").
pub record Request : Type 0 where
  pub row : TableRow
  pub unit : ℕ
  pub offset : ℕ
  pub value : ℕ
  pub other : ℕ

-- ---- what may be asked

-- "offset 0000-00FF", "0100-01FF", "0200-02FF"; "For 41 the offset's high byte is 0"; the other rows take any
abbrev pub Named : TableRow → ℕ → Type 0
Named row_03 o = Unit {0}
Named row_04 o = Unit {0}
Named row_06 o = Unit {0}
Named row_10 o = Unit {0}
Named row_17_read o = Unit {0}
Named row_17_write_00 o = o ≤ 0x00FF
Named row_17_write_02 o = (0x0200 ≤ o) × (o ≤ 0x02FF)
Named row_17_both_00 o = o ≤ 0x00FF
Named row_17_both_01 o = (0x0100 ≤ o) × (o ≤ 0x01FF)
Named row_17_both_02 o = (0x0200 ≤ o) × (o ≤ 0x02FF)
Named row_41_0000 o = o ≤ 0x00FF
Named row_41_0010 o = o ≤ 0x00FF
Named row_41_0020 o = o ≤ 0x00FF

-- "Units 1 to 4 are the lines"; offsets and values are 16-bit numbers
pub record Fits (q : Request) : Type 0 where
  pub from : 1 ≤ q.unit
  pub upto : q.unit ≤ 4
  pub named : Named q.row q.offset
  pub offset : q.offset < 65536
  pub value : q.value < 65536
  pub other : q.other < 65536

-- ---- its bytes

-- the bodies that there are: "Counts are 1 (for 17: 0 or 1 each, not both 0)". u is the unit, f the function, o the offset, v the value
abbrev pub read_one : ℕ → ℕ → ℕ → List ℕ
read_one u f o = u ∷ f ∷ pair o (pair 0x0001 [])

abbrev pub write_06 : ℕ → ℕ → ℕ → List ℕ
write_06 u o v = u ∷ 0x06 ∷ pair o (pair v [])

abbrev pub write_10 : ℕ → ℕ → ℕ → List ℕ
write_10 u o v = u ∷ 0x10 ∷ pair o (pair 0x0001 (0x02 ∷ pair v []))

-- 17: offset and count of the read, those of the write, byte count, value; r is the read's offset, w the write's
abbrev pub read_17 : ℕ → ℕ → ℕ → List ℕ
read_17 u r w = u ∷ 0x17 ∷ pair r (pair 0x0001 (pair w (pair 0x0000 (0x00 ∷ []))))

abbrev pub write_17 : ℕ → ℕ → ℕ → ℕ → List ℕ
write_17 u r w v = u ∷ 0x17 ∷ pair r (pair 0x0000 (pair w (pair 0x0001 (0x02 ∷ pair v []))))

abbrev pub both_17 : ℕ → ℕ → ℕ → ℕ → List ℕ
both_17 u r w v = u ∷ 0x17 ∷ pair r (pair 0x0001 (pair w (pair 0x0001 (0x02 ∷ pair v []))))

-- 41: offset, value, message
abbrev pub say_41 : ℕ → ℕ → ℕ → ℕ → List ℕ
say_41 u o v m = u ∷ 0x41 ∷ pair o (pair v (pair m []))

-- which of them a row has; x is the offset that isn't looked at. "For 17 with both, the two offsets are equal"
abbrev pub body_in : TableRow → ℕ → ℕ → ℕ → ℕ → List ℕ
body_in row_03 u o v x = read_one u 0x03 o
body_in row_04 u o v x = read_one u 0x04 o
body_in row_06 u o v x = write_06 u o v
body_in row_10 u o v x = write_10 u o v
body_in row_17_read u o v x = read_17 u o x
body_in row_17_write_00 u o v x = write_17 u x o v
body_in row_17_write_02 u o v x = write_17 u x o v
body_in row_17_both_00 u o v x = both_17 u o o v
body_in row_17_both_01 u o v x = both_17 u o o v
body_in row_17_both_02 u o v x = both_17 u o o v
body_in row_41_0000 u o v x = say_41 u o v 0x0000
body_in row_41_0010 u o v x = say_41 u o v 0x0010
body_in row_41_0020 u o v x = say_41 u o v 0x0020

abbrev pub body_of_request : Request → List ℕ
body_of_request q = body_in q.row q.unit q.offset q.value q.other

-- ---- its question

-- "READ-DATA, value 0", which takes the master's own status with it for ids 0 and 70: "codes 03 and 04 and code 17 with a read alone" (02, Ask 2)
abbrev pub read_alone : ℕ → ℕ → ℕ → Verdict
read_alone u f o = order u 0 (o % 256) 0x0000 true f o form.Value

-- line, type, id, value, no read alone, and for the reply function, offset and form: "The id is the offset's low byte"; types 0 READ-DATA,
-- 1 WRITE-DATA, 2 INVALID-DATA. "Code 41 and 17 with a value stay" (02, Ask 2)
abbrev pub asked_in : TableRow → ℕ → ℕ → ℕ → Verdict
asked_in row_03 u o v = read_alone u 0x03 o
asked_in row_04 u o v = read_alone u 0x04 o
asked_in row_06 u o v = order u 1 (o % 256) v false 0x06 o form.OffsetValue
asked_in row_10 u o v = order u 1 (o % 256) v false 0x10 o form.OffsetOne
asked_in row_17_read u o v = read_alone u 0x17 o
asked_in row_17_write_00 u o v = order u 1 (o % 256) v false 0x17 o form.Zero
asked_in row_17_write_02 u o v = order u 2 (o % 256) v false 0x17 o form.Never
asked_in row_17_both_00 u o v = order u 0 (o % 256) v false 0x17 o form.Value
asked_in row_17_both_01 u o v = order u 1 (o % 256) v false 0x17 o form.Value
asked_in row_17_both_02 u o v = order u 2 (o % 256) v false 0x17 o form.ValueOfInvalid
asked_in row_41_0000 u o v = order u 0 (o % 256) v false 0x41 o form.Whole
asked_in row_41_0010 u o v = order u 1 (o % 256) v false 0x41 o form.Whole
asked_in row_41_0020 u o v = order u 2 (o % 256) v false 0x41 o form.Whole

abbrev pub asked_by : Request → Verdict
asked_by q = asked_in q.row q.unit q.offset q.value
