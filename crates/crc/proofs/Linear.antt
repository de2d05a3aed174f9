-- The bits of the checksum are linear in xor: those of two registers that are xored are theirs, xored.
-- Assumes nothing.
use mathlib.Core.Path.{◌≡◌, refl, sym, ap, ap₂, ◌∙◌}
use Prim.Native.Nat.{ℕ, zero, suc, ◌+◌, ◌*◌, ◌/◌, ◌%◌, ◌^◌, ◌<◌}
use native.Mathlib.Nat.{mod-lt, mul-one}
use native.Mathlib.Omega.{arith}
use lib.Arith.{bin_ind, digits_div, digits_mod}
use lib.Bits.{bit_xor, differ, xor_step, xor_self, xor_zero_l, xor_zero_r, shifted_half, shifted_even, xor_comm}
use Rattle.word.proofs.Parity.{two_pos, differ_lt}
use Rattle.crc.specs.Crc.{crc_bit, crc_bits}

differ_assoc : (x y z : ℕ) → x < 2 → y < 2 → z < 2 → differ (differ x y) z ≡ differ x (differ y z)
differ_assoc zero y z a b c = refl
differ_assoc (suc zero) zero z a b c = refl
differ_assoc (suc zero) (suc zero) zero a b c = refl
differ_assoc (suc zero) (suc zero) (suc zero) a b c = refl
differ_assoc (suc zero) (suc zero) (suc (suc z)) a b c = omega arith
differ_assoc (suc zero) (suc (suc y)) z a b c = omega arith
differ_assoc (suc (suc x)) y z a b c = omega arith

-- the last digit, and what stands above it
pub low : (a b : ℕ) → bit_xor a b % 2 ≡ differ (a % 2) (b % 2)
low a b = ap (λ (x : ℕ). x % 2) (xor_step a b) ∙ digits_mod (bit_xor (a / 2) (b / 2)) (differ_lt (a % 2) (b % 2) (mod-lt a two_pos) (mod-lt b two_pos))

pub high : (a b : ℕ) → bit_xor a b / 2 ≡ bit_xor (a / 2) (b / 2)
high a b = ap (λ (x : ℕ). x / 2) (xor_step a b) ∙ digits_div (bit_xor (a / 2) (b / 2)) (differ_lt (a % 2) (b % 2) (mod-lt a two_pos) (mod-lt b two_pos))

pub xor_assoc : (a b c : ℕ) → bit_xor (bit_xor a b) c ≡ bit_xor a (bit_xor b c)
xor_assoc a =
    bin_ind (λ (n : ℕ). (b c : ℕ) → bit_xor (bit_xor n b) c ≡ bit_xor n (bit_xor b c)) (λ b c. refl)
    (λ n ih b c.
    xor_step (bit_xor n b) c
    ∙ ap₂ (λ (x y : ℕ). bit_xor x (c / 2) * 2 + differ y (c % 2)) (high n b) (low n b)
    ∙ ap₂ (λ (x y : ℕ). x * 2 + y) (ih (b / 2) (c / 2)) (differ_assoc (n % 2) (b % 2) (c % 2) (mod-lt n two_pos) (mod-lt b two_pos) (mod-lt c two_pos))
    ∙ sym (xor_step n (bit_xor b c)
    ∙ ap₂ (λ (x y : ℕ). bit_xor (n / 2) x * 2 + differ (n % 2) y) (high b c) (low b c))) a

-- a number that is xored in twice goes out
pub again : (u a : ℕ) → bit_xor u (bit_xor u a) ≡ a
again u a = sym (xor_assoc u u a) ∙ ap (λ (x : ℕ). bit_xor x a) (xor_self u) ∙ xor_zero_l a

-- two pairs, the other way round
pub swap : (a b c d : ℕ) → bit_xor (bit_xor a b) (bit_xor c d) ≡ bit_xor (bit_xor a c) (bit_xor b d)
swap a b c d =
    xor_assoc a b (bit_xor c d)
    ∙ ap (bit_xor a) (sym (xor_assoc b c d) ∙ ap (λ (x : ℕ). bit_xor x d) (xor_comm b c) ∙ xor_assoc c b d)
    ∙ sym (xor_assoc a c (bit_xor b d))

-- what the rest is xored with for a digit that goes out
abbrev pub back : ℕ → ℕ
back y = y * 0xa001

feed : (x y : ℕ) → x < 2 → y < 2 → back (differ x y) ≡ bit_xor (back x) (back y)
feed zero y a b = refl
feed (suc zero) zero a b = refl
feed (suc zero) (suc zero) a b = refl
feed (suc (suc x)) y a b = absurd (omega arith)
feed (suc zero) (suc (suc y)) a b = absurd (omega arith)

bit_linear : (a b : ℕ) → crc_bit (bit_xor a b) ≡ bit_xor (crc_bit a) (crc_bit b)
bit_linear a b =
    ap₂ (λ (x y : ℕ). bit_xor x (back y)) (high a b) (low a b)
    ∙ ap (bit_xor (bit_xor (a / 2) (b / 2))) (feed (a % 2) (b % 2) (mod-lt a two_pos) (mod-lt b two_pos))
    ∙ swap (a / 2) (b / 2) (back (a % 2)) (back (b % 2))

pub linear : (k a b : ℕ) → crc_bits k (bit_xor a b) ≡ bit_xor (crc_bits k a) (crc_bits k b)
unfolding crc_bits
linear zero a b = refl
linear (suc k) a b = ap (crc_bits k) (bit_linear a b) ∙ linear k (crc_bit a) (crc_bit b)

-- k bits with nothing in the low k digits only shift
pub shifts : (k a : ℕ) → crc_bits k (a * 2 ^ k) ≡ a
unfolding crc_bits
shifts zero a = mul-one a
shifts (suc k) a =
    ap (crc_bits k)
    (ap₂ (λ (x y : ℕ). bit_xor x (back y)) (shifted_half a k) (shifted_even a k) ∙ xor_zero_r (a * 2 ^ k))
    ∙ shifts k a
