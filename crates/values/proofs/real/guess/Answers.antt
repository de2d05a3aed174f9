-- `values::real::guess` meets its contract.
-- Assumes nothing.
use Rattle.std.proofs.Common.{◌≡◌, ℕ, false, ap, ◌∙◌, to_z, of_z, w16}
use lib.Ieee.{Float, binary32, fin, mul, of_bits, to_signed}
use lib.IntN.{pos}
use Rattle.values.proofs.Exact.{bits_back}
use Rattle.values.proofs.Floats.{times_back}
use Rattle.values.proofs.real.guess.Goals as goal

pub returns : goal.returns
unfolding of_bits
returns c raw h e =
    let z = c.saturating_f32_to_i16.result in
    let is : z ≡ to_z w16 raw = c.saturating_f32_to_i16.ensures ∙ ap (λ (x : Float). to_signed 15 (mul binary32 x (fin false 1 (pos 8)))) e ∙ times_back raw h in
    let back = bits_back raw h in
    c.cast_unsigned.ensures ∙ ap (λ (n : ℕ). of_z w16 (to_z w16 n)) (ap (of_z w16) is ∙ back) ∙ back
