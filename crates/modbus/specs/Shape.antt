-- The form of a request (01, 'Modbus'), over its body: what stands between wrapping and checksum, the unit at 0, the function at 1,
-- the data from 2 on. Codes are hexadecimal, lengths decimal.
-- Assumes nothing: these are definitions.
use Rattle.std.specs.Prelude.{ℕ, ◌+◌, ◌*◌, List, Bool, cond, ◌&&◌, length, get_or, eqb, leb}
use Rattle.places.specs.Bytes.{pair_at}
use Rattle.modbus.specs.declared.shape.Fields.{Fields}

abbrev pub unit_of : List ℕ → ℕ
unit_of b = get_or b 0 0

abbrev pub function_of : List ℕ → ℕ
function_of b = get_or b 1 0

-- "exact length and byte count, then counts"; "Counts are 1 (for 17: 0 or 1 each, not both 0)."

-- 03, 04: offset at 2, count at 4
unfoldable pub read_formed : List ℕ → Bool
read_formed b = eqb (length b) 6 && eqb (pair_at b 4) 1

-- 10: offset at 2, count at 4, byte count at 6, value at 7
unfoldable pub many_formed : List ℕ → Bool
many_formed b = eqb (length b) 9 && (eqb (get_or b 6 0) 2 && eqb (pair_at b 4) 1)

-- 17: read offset at 2, read count at 4, write offset at 6, write count at 8, byte count at 10, and the value at 11 if there is one
unfoldable pub both_formed : List ℕ → Bool
both_formed b =
    eqb (length b) (11 + get_or b 10 0)
    && (eqb (get_or b 10 0) (pair_at b 8 * 2)
    && (leb (pair_at b 4) 1 && (leb (pair_at b 8) 1 && leb 1 (pair_at b 4 + pair_at b 8))))

-- 06: offset at 2, value at 4; 41: offset at 2, value at 4, message at 6
unfoldable pub formed_of : ℕ → List ℕ → Bool
formed_of f b =
    cond (eqb f 0x06) (eqb (length b) 6)
    (cond (eqb f 0x10) (many_formed b)
    (cond (eqb f 0x17) (both_formed b)
    (cond (eqb f 0x41) (eqb (length b) 8)
    (read_formed b))))

-- ---- what a request of the right form says

abbrev pub read_fields : ℕ → ℕ → Fields
read_fields f from = record { function = f; reads = 1; writes = 0; from = from; to = 0; value = 0; message = 0 }

abbrev pub write_fields : ℕ → ℕ → ℕ → ℕ → Fields
write_fields f to v m = record { function = f; reads = 0; writes = 1; from = 0; to = to; value = v; message = m }

-- with nothing written there is no value, and bytes past the end count as 0
abbrev pub both_fields : List ℕ → Fields
both_fields b =
    record {
      function = 0x17;
      reads = pair_at b 4;
      writes = pair_at b 8;
      from = pair_at b 2;
      to = pair_at b 6;
      value = pair_at b 11;
      message = 0;
    }

unfoldable pub request_fields : ℕ → List ℕ → Fields
request_fields f b =
    cond (eqb f 0x06) (write_fields f (pair_at b 2) (pair_at b 4) 0)
    (cond (eqb f 0x10) (write_fields f (pair_at b 2) (pair_at b 7) 0)
    (cond (eqb f 0x17) (both_fields b)
    (cond (eqb f 0x41) (write_fields f (pair_at b 2) (pair_at b 4) (pair_at b 6))
    (read_fields f (pair_at b 2)))))
