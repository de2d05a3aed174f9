-- Each tried number, computed from the definitions.
-- Assumes nothing.
use mathlib.Core.Path.{refl}
use lib.Count.{ones_in}
use lib.Ieee.{to_bits, round}
use Rattle.word.proofs.Worked.{built_is}
use Rattle.values.specs.Real.{real_of}
use Rattle.crc.proofs.Tried.{p8}
use Rattle.turns.proofs.Tried.{p9, p10, p12}
use Rattle.samples.proofs.Tried.{p11}
use Rattle.cases.specs.Tried.{Tried}

pub tried : Tried
unfolding ones_in real_of to_bits round
tried =
    record {
      p1 = built_is 0 25 0 0x8019_0000 refl;
      p2 = built_is 1 1 0x3c00 0x1001_3c00 refl;
      p3 = built_is 7 25 0 0x7019_0000 refl;
      p4 = built_is 6 25 0 0xe019_0000 refl;
      p5 = refl;
      p5_is = (refl, refl);
      p6 = refl;
      p6_is = (refl, refl);
      p7 = refl;
      p7_is = (refl, refl);
      p8 = p8;
      p9 = p9;
      p10 = p10;
      p11 = p11;
      p12 = p12;
    }
