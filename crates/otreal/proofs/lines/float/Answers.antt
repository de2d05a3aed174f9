-- `otreal::lines::float` meets its contract: above the infinities' magnitude each pattern is the NaN's, and no other is.
-- Assumes nothing.
use mathlib.Core.Path.{◌≡◌, refl, sym, ◌∙◌, subst}
use mathlib.Core.Bool.{Bool, true, not}
use Prim.Native.Nat.{ℕ, ◌%◌, ◌^◌, ◌≤◌, ◌<◌}
use borrow.Author.Tests.{lt-ltb, le-ltb}
use lib.Dec.{T}
use lib.Ieee.{Float, nan, inf, fin, is_nan, nan_bits, binary32, of_bits, div}
use lib.Ieee.Bits.{nan_bits_is, nan_bits_above}
use Rattle.otreal.proofs.lines.float.Goals as goal

no_nan : (b : ℕ) → b % 2 ^ 31 ≤ 0x7f80_0000 → T (not (nan_bits binary32 b))
no_nan b h = subst (λ (t : Bool). T (not t)) (sym (nan_bits_above binary32 b ∙ le-ltb 0x7f80_0000 (b % 2 ^ 31) h)) tt

nan_is : (x : Float) → is_nan x ≡ true → nan ≡ x
unfolding is_nan
nan_is nan e = refl
nan_is (inf s) e = absurd (subst T (sym e) tt)
nan_is (fin s m n) e = absurd (subst T (sym e) tt)

the_nan : (b : ℕ) → 0x7f80_0000 < b % 2 ^ 31 → nan ≡ of_bits binary32 b
the_nan b h = nan_is (of_bits binary32 b) (sym (nan_bits_is binary32 b) ∙ nan_bits_above binary32 b ∙ lt-ltb 0x7f80_0000 (b % 2 ^ 31) h)

pub returns-then-magnitude-gt2139095040 : goal.returns-then-magnitude-gt2139095040
unfolding div of_bits
returns-then-magnitude-gt2139095040 c = the_nan c.args.bits c.if-magnitude-gt2139095040.true

pub float_from_bits-result : goal.float_from_bits-result
float_from_bits-result c = no_nan c.args.bits c.if-magnitude-gt2139095040.false
