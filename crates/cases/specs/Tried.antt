-- 'Tried numbers (P: proved, one table)' of 01, each in the terms of the definitions that the contracts cite. `tried` of proofs/Table.antt
-- proves them together.
-- Assumes nothing: these are definitions.
use Rattle.std.specs.Prelude.{◌≡◌, true, false, [], ◌∷◌, ℕ, ◌≤◌, Ok}
use Rattle.std.specs.Float.{binary32}
use Rattle.std.specs.Float.Ieee.{to_bits}
use Rattle.std.specs.Float.Ieee.Exact.{HasValue}
use Rattle.refusals.specs.declared.Refusal.TheVariants.{OutOfTime}
use Rattle.word.specs.declared.Frame.{Frame}
use Rattle.word.specs.Fields.{GoodWord}
use Rattle.word.specs.Frame.{type_of, matches_of, built_of, read_data, write_data, unknown_dataid, data_invalid}
use Rattle.values.specs.Real.{real_of}
use Rattle.crc.specs.Crc.{sealed}
use Rattle.turns.specs.Turns.{tick_of, boiler_of}
use Rattle.turns.specs.Events.{note_of, answer, no_answer, refused}
use Rattle.turns.specs.Cases.{ticks_later, asking, crowded}
use Rattle.samples.specs.Tried.{Gives, p11_cases}

pub record Tried : Type 0 where
  -- P1 READ-DATA 25, value 0: 80190000
  pub p1 : built_of read_data 25 0 ≡ Ok 0x8019_0000
  -- P2 WRITE-DATA 1, 3C00: 10013C00
  pub p2 : built_of write_data 1 0x3c00 ≡ Ok 0x1001_3c00
  -- P3 UNKNOWN-DATAID 25, 0: 70190000
  pub p3 : built_of unknown_dataid 25 0 ≡ Ok 0x7019_0000
  -- P4 DATA-INVALID 25, 0: E0190000
  pub p4 : built_of data_invalid 25 0 ≡ Ok 0xe019_0000
  -- P5 f8.8 3280 is 50.5, float bits 424A0000
  pub p5 : to_bits binary32 (real_of 0x3280) ≡ 0x424a_0000
  pub p5_is : HasValue (real_of 0x3280) false 505 10
  -- P6 FF00 is -1, BF800000
  pub p6 : to_bits binary32 (real_of 0xff00) ≡ 0xbf80_0000
  pub p6_is : HasValue (real_of 0xff00) true 1 1
  -- P7 8000 is -128, C3000000
  pub p7 : to_bits binary32 (real_of 0x8000) ≡ 0xc300_0000
  pub p7_is : HasValue (real_of 0x8000) true 128 1
  -- P8 checksum of 05 03 00 76 00 01 goes out 64 54 (003)
  pub p8 : sealed (0x05 ∷ 0x03 ∷ 0x00 ∷ 0x76 ∷ 0x00 ∷ 0x01 ∷ []) ≡ 0x05 ∷ 0x03 ∷ 0x00 ∷ 0x76 ∷ 0x00 ∷ 0x01 ∷ 0x64 ∷ 0x54 ∷ []
  -- P9 a match at age 84 counts, at 83 is refusal 7 (`number_of`, refusals/specs/Numbers): any word w of a question, any frame b that matches it
  pub p9 : (w : ℕ) (b : Frame) → matches_of w b.word ≡ true →
      (note_of (boiler_of (asking w 84) b).said ≡ answer b 184) × (note_of (boiler_of (asking w 83) b).said ≡ refused OutOfTime)
  -- P10 at 874 counts; tick 875 gives no answer
  pub p10 : (w : ℕ) (b : Frame) → matches_of w b.word ≡ true →
      (note_of (boiler_of (asking w 874) b).said ≡ answer b 974) × (note_of (tick_of (asking w 874)).said ≡ no_answer 975)
  -- P11 a middle edge at 17 is refusal 1, at 18 and 23 good
  pub p11 : Gives p11_cases
  -- P12 an order taken at rest 0 after a Modbus talk, thermostat frame held, silent boiler: outcome at tick 1,950
  pub p12 : (v w : ℕ) (f : Frame) → GoodWord f.word → type_of f.word ≤ 2 →
      note_of (tick_of (ticks_later 1949 (crowded v w f))).said ≡ no_answer 1950
