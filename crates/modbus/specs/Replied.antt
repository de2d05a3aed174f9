-- The replies to each row of 01's table (see Table), byte by byte: a body for each outcome of an order. What the box replies is held to this
-- (proofs/Answered).
-- Assumes nothing: these are definitions.
use Rattle.std.specs.Prelude.{ℕ, ◌+◌, List, [], ◌∷◌}
use Rattle.places.specs.Bytes.{pair}
use Rattle.modbus.specs.Table.{
  TableRow,
  row_03,
  row_04,
  row_06,
  row_10,
  row_17_read,
  row_17_write_00,
  row_17_write_02,
  row_17_both_00,
  row_17_both_01,
  row_17_both_02,
  row_41_0000,
  row_41_0010,
  row_41_0020,
  Request,
}

-- what follows where there is no status to send (02, Ask 2), and where another order waits; and a boiler frame of type 4, of 5, of 6, of 7, and
-- no answer: a body each
pub record ReplyBodies : Type 0 where
  pub lacking : List ℕ
  pub busy : List ℕ
  pub four : List ℕ
  pub five : List ℕ
  pub six : List ℕ
  pub seven : List ℕ
  pub none : List ℕ

-- an exception sets the function's highest bit
abbrev pub code : ℕ → ℕ → ℕ → List ℕ
code u f c = u ∷ (f + 0x80) ∷ c ∷ []

-- "exception 04 at once" (02, Ask 2); "an order already waiting (06 ..)"; "Outcomes: type 7 is exception 02, type 6 is 04, no answer is 0B."
abbrev pub usual : ℕ → ℕ → List ℕ → ReplyBodies
usual u f normal = record { lacking = code u f 0x04; busy = code u f 0x06; four = normal; five = normal; six = code u f 0x04; seven = code u f 0x02; none = code u f 0x0B }

-- "none: always an exception" (types 4 and 5 don't match an INVALID-DATA)
abbrev pub always : ℕ → ℕ → ReplyBodies
always u f = usual u f (code u f 0x04)

-- "Type 6 is a normal reply in the last 17 row"
abbrev pub six_too : ℕ → ℕ → List ℕ → ReplyBodies
six_too u f normal = record { lacking = code u f 0x04; busy = code u f 0x06; four = normal; five = normal; six = normal; seven = code u f 0x02; none = code u f 0x0B }

-- "41 gives types 4 to 7 as normal replies and only no answer as 0B": "offset, value, 00, type times 16"
abbrev pub whole : ℕ → ℕ → ℕ → ReplyBodies
whole u o v =
    record {
      lacking = code u 0x41 0x04;
      busy = code u 0x41 0x06;
      four = u ∷ 0x41 ∷ pair o (pair v (0x00 ∷ 0x40 ∷ []));
      five = u ∷ 0x41 ∷ pair o (pair v (0x00 ∷ 0x50 ∷ []));
      six = u ∷ 0x41 ∷ pair o (pair v (0x00 ∷ 0x60 ∷ []));
      seven = u ∷ 0x41 ∷ pair o (pair v (0x00 ∷ 0x70 ∷ []));
      none = code u 0x41 0x0B;
    }

-- u the unit, o the offset, b the boiler's value
abbrev pub replies_in : TableRow → ℕ → ℕ → ℕ → ReplyBodies
replies_in row_03 u o b = usual u 0x03 (u ∷ 0x03 ∷ 0x02 ∷ pair b [])
replies_in row_04 u o b = usual u 0x04 (u ∷ 0x04 ∷ 0x02 ∷ pair b [])
replies_in row_06 u o b = usual u 0x06 (u ∷ 0x06 ∷ pair o (pair b []))
replies_in row_10 u o b = usual u 0x10 (u ∷ 0x10 ∷ pair o (0x00 ∷ 0x01 ∷ []))
replies_in row_17_read u o b = usual u 0x17 (u ∷ 0x17 ∷ 0x02 ∷ pair b [])
replies_in row_17_write_00 u o b = usual u 0x17 (u ∷ 0x17 ∷ 0x00 ∷ [])
replies_in row_17_write_02 u o b = always u 0x17
replies_in row_17_both_00 u o b = usual u 0x17 (u ∷ 0x17 ∷ 0x02 ∷ pair b [])
replies_in row_17_both_01 u o b = usual u 0x17 (u ∷ 0x17 ∷ 0x02 ∷ pair b [])
replies_in row_17_both_02 u o b = six_too u 0x17 (u ∷ 0x17 ∷ 0x02 ∷ pair b [])
replies_in row_41_0000 u o b = whole u o b
replies_in row_41_0010 u o b = whole u o b
replies_in row_41_0020 u o b = whole u o b

abbrev pub replies_to : Request → ℕ → ReplyBodies
replies_to q b = replies_in q.row q.unit q.offset b
