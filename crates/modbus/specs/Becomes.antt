-- What becomes of each body of bytes (01, 'Modbus', "Order of checks"), said by the bodies of 01's table (see Table) and in 01's words alone: the
-- reader of messages, its rows and its tests are not known here.
-- Assumes nothing: these are definitions.
use Rattle.std.specs.Prelude.{ℕ, ◌≤◌, ◌<◌, ◌≡◌, ◌⊎◌, List, get_or}
use Rattle.modbus.specs.Numbers.{Verdict, refused, exception, two_value}
use Rattle.modbus.specs.Table.{Request, Fits, body_of_request, asked_by, read_one, write_06, write_10, read_17, write_17, both_17, say_41}

-- every element is a byte
abbrev pub Bytes : List ℕ → Type 0
Bytes s = (k : ℕ) → get_or s k 0 < 256

-- "unit 1 to 5; function below 80"
pub record Addressed (b : List ℕ) : Type 0 where
  pub from : 1 ≤ get_or b 0 0
  pub upto : get_or b 0 0 ≤ 5
  pub below : get_or b 1 0 < 0x80

-- the functions that are served: "Unit 5 serves 03, 04, 06, 10", the lines' units all of the table
pub data Serves (u : ℕ) : ℕ → Type 0 where
  three : Serves u 0x03
  four : Serves u 0x04
  six : Serves u 0x06
  ten : Serves u 0x10
  seventeen : (u ≡ 5 → ⊥) → Serves u 0x17
  forty_one : (u ≡ 5 → ⊥) → Serves u 0x41

-- "exact length and byte count, then counts": a body of its function, of 16-bit numbers
pub data Spelled (u : ℕ) (b : List ℕ) : ℕ → Type 0 where
  in_03 : (o : ℕ) → o < 65536 → b ≡ read_one u 0x03 o → Spelled u b 0x03
  in_04 : (o : ℕ) → o < 65536 → b ≡ read_one u 0x04 o → Spelled u b 0x04
  in_06 : (o v : ℕ) → o < 65536 → v < 65536 → b ≡ write_06 u o v → Spelled u b 0x06
  in_10 : (o v : ℕ) → o < 65536 → v < 65536 → b ≡ write_10 u o v → Spelled u b 0x10
  in_17_read : (r w : ℕ) → r < 65536 → w < 65536 → b ≡ read_17 u r w → Spelled u b 0x17
  in_17_write : (r w v : ℕ) → r < 65536 → w < 65536 → v < 65536 → b ≡ write_17 u r w v → Spelled u b 0x17
  in_17_both : (r w v : ℕ) → r < 65536 → w < 65536 → v < 65536 → b ≡ both_17 u r w v → Spelled u b 0x17
  in_41 : (o v m : ℕ) → o < 65536 → v < 65536 → m < 65536 → b ≡ say_41 u o v m → Spelled u b 0x41

-- "Units 1 to 4 are the lines"
abbrev pub Line : ℕ → Type 0
Line u = (1 ≤ u) × (u ≤ 4)

pub data Becomes (b : List ℕ) : Verdict → Type 0 where
  other_unit : (get_or b 0 0 < 1) ⊎ (5 < get_or b 0 0) → Becomes b (refused 13)
  high_function : 1 ≤ get_or b 0 0 → get_or b 0 0 ≤ 5 → 0x80 ≤ get_or b 1 0 → Becomes b (refused 14)
  -- "function served (else exception 01)"
  not_served : Addressed b → (Serves (get_or b 0 0) (get_or b 1 0) → ⊥) → Becomes b (exception (get_or b 0 0) (get_or b 1 0) 0x01)
  -- "exact length and byte count, then counts (03)"
  not_spelled : Addressed b → Serves (get_or b 0 0) (get_or b 1 0) → (Spelled (get_or b 0 0) b (get_or b 1 0) → ⊥) →
      Becomes b (exception (get_or b 0 0) (get_or b 1 0) 0x03)
  -- "offset (02)": "For 17 with both, the two offsets are equal (else 02)"
  unlike : (u r w v : ℕ) → Line u → b ≡ both_17 u r w v → (r ≡ w → ⊥) → Becomes b (exception u 0x17 0x02)
  -- "Offsets that the 17 rows don't name are 02"
  unnamed_write : (u r w v : ℕ) → Line u → b ≡ write_17 u r w v → ((0x0100 ≤ w) × (w ≤ 0x01FF)) ⊎ (0x0300 ≤ w) → Becomes b (exception u 0x17 0x02)
  unnamed_both : (u o v : ℕ) → Line u → b ≡ both_17 u o o v → 0x0300 ≤ o → Becomes b (exception u 0x17 0x02)
  -- "For 41 the offset's high byte is 0"
  high_byte : (u o v m : ℕ) → Line u → b ≡ say_41 u o v m → 0x0100 ≤ o → Becomes b (exception u 0x41 0x02)
  -- "type for 41 (03)": "message 0030 is 03, .. and so is every message not named in the row"
  other_message : (u o v m : ℕ) → Line u → b ≡ say_41 u o v m → o ≤ 0x00FF → (m ≡ 0x0000 → ⊥) → (m ≡ 0x0010 → ⊥) → (m ≡ 0x0020 → ⊥) →
      Becomes b (exception u 0x41 0x03)
  -- "accepted": a request by a row of the table, and nothing else
  asks : (q : Request) → Fits q → b ≡ body_of_request q → Becomes b (asked_by q)
  -- unit 5: "register 0076 reads 0100 (version 1.0)"
  version_03 : b ≡ read_one 5 0x03 0x0076 → Becomes b (two_value 5 0x03 0x0100)
  version_04 : b ≡ read_one 5 0x04 0x0076 → Becomes b (two_value 5 0x04 0x0100)
  -- "writing it, and every other register, is 02"
  other_03 : (o : ℕ) → b ≡ read_one 5 0x03 o → (o ≡ 0x0076 → ⊥) → Becomes b (exception 5 0x03 0x02)
  other_04 : (o : ℕ) → b ≡ read_one 5 0x04 o → (o ≡ 0x0076 → ⊥) → Becomes b (exception 5 0x04 0x02)
  own_06 : (o v : ℕ) → b ≡ write_06 5 o v → Becomes b (exception 5 0x06 0x02)
  own_10 : (o v : ℕ) → b ≡ write_10 5 o v → Becomes b (exception 5 0x10 0x02)
