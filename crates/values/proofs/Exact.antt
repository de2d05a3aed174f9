-- A number over 256 as a single-precision float, and back: nothing is rounded.
-- Assumes nothing.
use Rattle.std.proofs.Common.{◌≡◌, ℕ, suc, ◌-◌, ◌*◌, ◌^◌, ◌<◌, ◌≤◌, Bool, cond, T, ℤ, pos, negsuc, nat_abs, sym, ap, ◌∙◌, lt_of_lt_of_le, mul_assoc, mul_comm, mul-pos, mul-one, arith, lit<, lit≤, shl_lt, le-ltb, true, false, SFits, to_z, of_z, w16}
use lib.Ieee.{Float, nan, inf, fin, binary32, up, down, unlike, round, mul, div, of_int, fits}
use lib.Ieee.Exact.{HasValue, round_exact}
use lib.Ieee.Scale.{round_same}
use lib.Ieee.Fits.{down_pos, round-fits}
use lib.Ieee.Back.{round_whole}
use mir.ValLaws.{to_z_pos, to_z-Fits, of_z-to_z}
use Rattle.ids.specs.Signed.{below0}
use Rattle.values.specs.Real.{real_of, negative, sized, ExactOf}

-- a value over ±256
div_256 : (x : Float) (s t : Bool) (n : ℕ) → HasValue x s n 1 → div binary32 x (fin t 1 (pos 8)) ≡ round binary32 (unlike s t) n 256
unfolding div
div_256 nan s t n v = absurd v
div_256 (inf q) s t n v = absurd v
div_256 (fin q m e) s t n v =
    ap (λ (b : Bool). round binary32 (unlike b t) (m * up e * 1) (256 * down e)) v.0
    ∙ round_same binary32 (unlike s t) (m * up e * 1) (256 * down e) n 256 (mul-pos (lit< tt) (down_pos e)) (lit< tt)
    (ap (λ (x : ℕ). x * 256) v.1 ∙ mul_assoc n (down e) 256 ∙ ap (λ (x : ℕ). n * x) (mul_comm (down e) 256))

-- a value times ±256
pub mul_256 : (x : Float) (s t : Bool) (n : ℕ) → HasValue x s n 256 → mul binary32 x (fin t 1 (pos 8)) ≡ round binary32 (unlike s t) n 1
unfolding mul
mul_256 nan s t n v = absurd v
mul_256 (inf q) s t n v = absurd v
mul_256 (fin q m e) s t n v =
    ap (λ (b : Bool). round binary32 (unlike b t) (m * up e * 256) (down e * 1)) v.0
    ∙ round_same binary32 (unlike s t) (m * up e * 256) (down e * 1) n 1 (mul-pos (down_pos e) (lit< tt)) (lit< tt)
    (mul-one (m * up e * 256) ∙ v.1 ∙ ap (λ (x : ℕ). n * x) (sym (mul-one (down e))))

pub over_256 : (t : Bool) (n : ℕ) → n ≤ 2 ^ 24 → div binary32 (of_int binary32 (pos n)) (fin t 1 (pos 8)) ≡ round binary32 (unlike false t) n 256
unfolding of_int
over_256 t n h = div_256 (round binary32 false n 1) false t n (round_whole binary32 false n h)

pub exact_256 : (s : Bool) (n : ℕ) → n ≤ 0x8000 → HasValue (round binary32 s n 256) s n 256
exact_256 s n h =
    let small : n < 2 ^ 24 = omega arith in
    round_exact binary32 s n 256 n 141 (lit< tt) small (lt_of_lt_of_le (shl_lt 24 141 small) (lit≤ tt)) (sym (mul_assoc n (2 ^ 141) 256))

-- ---- of a signed number
abbrev over : ℤ → Float
over z = round binary32 (below0 z) (nat_abs z) 256

signed_over : (z : ℤ) → SFits w16 z → div binary32 (of_int binary32 z) (fin false 1 (pos 8)) ≡ over z
unfolding of_int
signed_over (pos n) f = over_256 false n (omega (arith, f.sfits))
signed_over (negsuc n) f = div_256 (round binary32 true (suc n) 1) true false (suc n) (round_whole binary32 true (suc n) (omega (arith, f.sfits)))

times_256 : (z : ℤ) → SFits w16 z → mul binary32 (over z) (fin false 1 (pos 8)) ≡ of_int binary32 z
unfolding of_int
times_256 (pos n) f = mul_256 (over (pos n)) false false n (exact_256 false n (omega (arith, f.sfits)))
times_256 (negsuc n) f = mul_256 (over (negsuc n)) true false (suc n) (exact_256 true (suc n) (omega (arith, f.sfits)))

over_exact : (z : ℤ) → SFits w16 z → HasValue (over z) (below0 z) (nat_abs z) 256
over_exact (pos n) f = exact_256 false n (omega (arith, f.sfits))
over_exact (negsuc n) f = exact_256 true (suc n) (omega (arith, f.sfits))

-- ---- of a raw number
module _ (raw : ℕ) (h : raw < 0x1_0000) where
  pub signed_fits : SFits w16 (to_z w16 raw)
  signed_fits = to_z-Fits w16 raw (record { fits = h })

  pub bits_back : of_z w16 (to_z w16 raw) ≡ raw
  bits_back = of_z-to_z w16 raw (record { fits = h })

  -- what the code divides, and what comes of it times 256
  pub quotient : div binary32 (of_int binary32 (to_z w16 raw)) (fin false 1 (pos 8)) ≡ real_of raw
  unfolding real_of
  quotient = signed_over (to_z w16 raw) signed_fits

  pub product : mul binary32 (real_of raw) (fin false 1 (pos 8)) ≡ of_int binary32 (to_z w16 raw)
  unfolding real_of
  product = times_256 (to_z w16 raw) signed_fits

  -- nothing is rounded
  pub real_exact : ExactOf raw (real_of raw)
  unfolding real_of
  real_exact = over_exact (to_z w16 raw) signed_fits

-- ---- the two halves of the raw numbers
pub real_pos : (raw : ℕ) → raw < 0x8000 → real_of raw ≡ round binary32 false raw 256
unfolding real_of
real_pos raw h = ap (λ (z : ℤ). round binary32 (below0 z) (nat_abs z) 256) (to_z_pos w16 raw h)

pub real_neg : (raw : ℕ) → 0x8000 ≤ raw → raw < 0x1_0000 → real_of raw ≡ round binary32 true (0x1_0000 - raw) 256
unfolding real_of
real_neg raw h k =
    let size : suc (0x1_0000 - suc raw) ≡ 0x1_0000 - raw = omega arith in
    let is : to_z w16 raw ≡ negsuc (0x1_0000 - suc raw) = ap (λ (b : Bool). cond b (pos raw) (negsuc (0x1_0000 - suc raw))) (le-ltb raw 0x8000 h) in
    ap (λ (z : ℤ). round binary32 (below0 z) (nat_abs z) 256) is ∙ ap (λ (n : ℕ). round binary32 true n 256) size

pub real_fits : (raw : ℕ) → T (fits binary32 (real_of raw))
unfolding real_of
real_fits raw = round-fits binary32 (negative raw) (sized raw) 256
