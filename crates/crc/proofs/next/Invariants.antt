-- The invariant of `crc::next`: the bits that are left give, from here, the register after the whole byte.
-- Assumes nothing.
use Rattle.std.proofs.Common.{◌-◌, ◌≡◌}
use Rattle.crc.specs.Crc.{crc_bits, crc_byte}
use Rattle.crc.proofs.next.Given as goal

abbrev pub invariant-loop : goal.invariant-loop
invariant-loop l = crc_bits (8 - l.counter) l.c ≡ crc_byte l.crc l.b
