-- `values::real::real_of` meets its contract: the quotient is the nearest float of the signed raw number over 256.
-- Assumes nothing.
use Rattle.std.proofs.Common.{◌≡◌, ◌<◌, false, ap, ◌∙◌, arith, to_z, of_z, w16}
use lib.Ieee.{Float, binary32, fin, div, of_int, of_bits}
use lib.IntN.{pos}
use Rattle.values.proofs.Exact.{bits_back, quotient}
use Rattle.values.proofs.real.real_of.Goals as goal

pub returns : goal.returns
unfolding of_bits
returns c =
    let raw = c.args.raw in
    let h : raw < 0x1_0000 = omega arith in
    let back : to_z w16 (of_z w16 c.cast_signed.result) ≡ to_z w16 raw = ap (to_z w16) (ap (of_z w16) c.cast_signed.ensures ∙ bits_back raw h) in
    ap (λ (x : Float). div binary32 x (fin false 1 (pos 8))) (c.from.ensures ∙ ap (of_int binary32) back) ∙ quotient raw h
