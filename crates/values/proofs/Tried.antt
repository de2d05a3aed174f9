-- Tried numbers: the typed value of 16 bits, an id of each kind. A pair has its high byte first, as 01's listing prints `030A` as 3 and 10.
-- Assumes nothing.
use Rattle.std.proofs.Common.{◌≡◌, true, false, pos, negsuc, refl}
use lib.Ieee.{fin, round}
use Rattle.ids.specs.Ids.{rows, rows_in, rows_of, entry_of, kind_of}
use Rattle.values.specs.Real.{real_of}
use Rattle.values.specs.Typed.{read_as}
use Rattle.values.specs.declared.Typed.TheVariants.{Real, S16, U16, Pair, SPair, Raw}

pub record Tried : Type 0 where
  -- 50.5 is 101 halves, -1 and 0 are themselves; 0 has no sign
  boiler_water : read_as (kind_of 25) 0x3280 ≡ Real (fin false 101 (negsuc 0))
  below_0 : read_as (kind_of 25) 0xff00 ≡ Real (fin true 1 (pos 0))
  nought : read_as (kind_of 25) 0x0000 ≡ Real (fin false 0 (pos 0))
  -- -40 and 258
  exhaust : read_as (kind_of 33) 0xffd8 ≡ S16 (negsuc 39)
  solar_collector : read_as (kind_of 30) 0x0102 ≡ S16 (pos 258)
  year : read_as (kind_of 22) 0x07ea ≡ U16 2026
  status : read_as (kind_of 0) 0x030a ≡ Pair 3 10
  -- 127 and -128
  bounds : read_as (kind_of 48) 0x7f80 ≡ SPair (pos 127) (negsuc 127)
  unlisted : read_as (kind_of 128) 0x8000 ≡ Raw 32768

pub tried : Tried
unfolding read_as real_of round kind_of entry_of rows_of rows rows_in
tried =
    record {
      boiler_water = refl;
      below_0 = refl;
      nought = refl;
      exhaust = refl;
      solar_collector = refl;
      year = refl;
      status = refl;
      bounds = refl;
      unlisted = refl;
    }
