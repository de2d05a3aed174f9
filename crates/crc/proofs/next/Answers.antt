-- `crc::next` meets its contract: a bit more goes out, and the rest give what they gave.
-- Assumes nothing.
use Rattle.std.proofs.Common.{◌≡◌, ℕ, suc, ◌+◌, ◌-◌, ◌/◌, sym, ap, ◌∙◌, arith}
use Rattle.std.specs.Int.Bits.{bit_xor}
use Rattle.crc.specs.Crc.{crc_bits}
use Rattle.crc.proofs.next.Goals as goal

pub loop-preserved : goal.loop-preserved
unfolding crc_bits
loop-preserved c =
    let x = c.loop.c in
    let k = c.loop.counter in
    let left : 8 - k ≡ suc (8 - (k + 1)) = omega arith in
    ap (λ (y : ℕ). crc_bits (8 - (k + 1)) (bit_xor (x / 2) y)) c.feedback.ensures
    ∙ ap (λ (n : ℕ). crc_bits n x) (sym left)
    ∙ c.loop.invariant
