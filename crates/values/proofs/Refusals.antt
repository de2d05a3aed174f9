-- A NaN, minus zero, 0.3 and 128 are refused: none is a raw number over 256.
-- Assumes nothing.
use Rattle.std.specs.Prelude.{Result}
use Rattle.refusals.specs.declared.Refusal.{Refusal}
use Rattle.std.proofs.Common.{◌≡◌, ℕ, suc, ◌<◌, true, false, T, ℤ, pos, negsuc, nat_abs, sym, subst, arith, SFits, w16}
use lib.Ieee.{Float, binary32, of_bits}
use lib.Ieee.Exact.{HasValue}
use Rattle.word.specs.Numbers.{refused}
use Rattle.ids.specs.Signed.{signed16, below0}
use Rattle.values.specs.Real.{negative, sized, BackOf}
use Rattle.values.specs.Numbers.{back_value}
use Rattle.values.proofs.Exact.{signed_fits, real_exact}
use Rattle.values.proofs.Trip.{none_refused}

refuse : (x : Float) → ((n : ℕ) → n < 0x8000 → HasValue x false n 256 → ⊥) → ((n : ℕ) → HasValue x true (suc n) 256 → ⊥) → (r : Result ℕ Refusal) →
    BackOf x r → back_value r ≡ refused 10
refuse x f g r b =
    none_refused x r b
    (λ raw h e. go (signed16 raw) (signed_fits raw h) (subst (λ (y : Float). HasValue y (negative raw) (sized raw) 256) (sym e) (real_exact raw h)))
  where
    go : (z : ℤ) → SFits w16 z → HasValue x (below0 z) (nat_abs z) 256 → ⊥
    go (pos n) p v = f n p.sfits v
    go (negsuc n) p v = g n v

pub refuse_nan : (r : Result ℕ Refusal) → BackOf (of_bits binary32 0x7fc0_0000) r → back_value r ≡ refused 10
unfolding of_bits
refuse_nan = refuse (of_bits binary32 0x7fc0_0000) (λ n p v. v) (λ n v. v)

pub refuse_minus_zero : (r : Result ℕ Refusal) → BackOf (of_bits binary32 0x8000_0000) r → back_value r ≡ refused 10
unfolding of_bits
refuse_minus_zero = refuse (of_bits binary32 0x8000_0000) (λ n p v. subst T v.0 tt) (λ n v. omega (arith, v.1))

pub refuse_0_3 : (r : Result ℕ Refusal) → BackOf (of_bits binary32 0x3e99_999a) r → back_value r ≡ refused 10
unfolding of_bits
refuse_0_3 = refuse (of_bits binary32 0x3e99_999a) (λ n p v. omega (arith, v.1)) (λ n v. subst T (sym v.0) tt)

pub refuse_128 : (r : Result ℕ Refusal) → BackOf (of_bits binary32 0x4300_0000) r → back_value r ≡ refused 10
unfolding of_bits
refuse_128 = refuse (of_bits binary32 0x4300_0000) (λ n p v. omega (arith, p, v.1)) (λ n v. subst T (sym v.0) tt)
