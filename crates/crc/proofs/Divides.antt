-- A message of bytes that passes is divisible. A bit of the checksum takes the divisor away where the lowest digit is 1, and halves what is left:
-- so a message of which nothing is left is a multiple of it, bit by bit.
-- Assumes nothing.
use mathlib.Core.Path.{◌≡◌, sym, ap, ap₂, subst, ◌∙◌}
use mathlib.Core.Bool.{Bool, true, false}
use mathlib.Core.List.{List, [], ◌∷◌}
use Prim.Native.Nat.{ℕ, zero, suc, ◌+◌, ◌*◌, ◌/◌, ◌%◌, ◌^◌, ◌<◌, ◌≤◌}
use native.Mathlib.Nat.{mod-lt, mul-one, mul_assoc, pow-suc}
use native.Mathlib.Omega.{arith}
use lib.Bits.{bit_xor, differ, xor_step, xor_comm, xor_shifted, xor_zero_r}
use lib.ListN.{length}
use Rattle.word.proofs.Parity.{two_pos}
use Rattle.crc.specs.Crc.{crc_bit, crc_bits, crc_byte, crc_from, crc_of, unsealed, passes_of}
use Rattle.crc.specs.Divides.{Bytes, number, product, Divisible}
use Rattle.crc.proofs.Linear.{xor_assoc}
use Rattle.crc.proofs.Changed.{passes_zero}
use Rattle.crc.proofs.Sealed.{length_sealed, passes_sealed}

abbrev pub Multiple : ℕ → Type 0
Multiple n = (q : List Bool) × (n ≡ product q 0x14003)

half : (n : ℕ) → n * 2 / 2 ≡ n
half n = omega arith

pub even : (n : ℕ) → n * 2 % 2 ≡ 0
even n = omega arith

twice : (a b : ℕ) → bit_xor a b * 2 ≡ bit_xor (a * 2) (b * 2)
twice a b =
    let e =
    xor_step (a * 2) (b * 2)
    ∙ ap₂ (λ (x y : ℕ). bit_xor x y * 2 + differ (a * 2 % 2) (b * 2 % 2)) (half a) (half b)
    ∙ ap₂ (λ (x y : ℕ). bit_xor a b * 2 + differ x y) (even a) (even b) in
    omega (arith, e)

-- a bit takes the divisor away where it is 1, and halves what is left
one : (c : ℕ) → bit_xor (c % 2 * 0x14003) (crc_bit c * 2) ≡ c
one c = parts (c / 2) (c % 2) (mod-lt c two_pos) ∙ omega arith
  where
    parts : (h d : ℕ) → d < 2 → bit_xor (d * 0x14003) (bit_xor h (d * 0xa001) * 2) ≡ h * 2 + d
    parts h zero l = ap (λ (x : ℕ). x * 2) (xor_zero_r h) ∙ omega arith
    parts h (suc zero) l =
        ap (bit_xor 0x14003) (twice h 0xa001)
        ∙ ap (bit_xor 0x14003) (xor_comm (h * 2) 0x14002)
        ∙ sym (xor_assoc 0x14003 0x14002 (h * 2))
        ∙ xor_comm 1 (h * 2)
        ∙ xor_shifted h 1 1 (omega arith)
    parts h (suc (suc d)) l = absurd (omega arith)

-- one digit more of the other factor
more : (d m : ℕ) → d < 2 → Multiple m → Multiple (bit_xor (d * 0x14003) (m * 2))
unfolding product
more zero m l (q, e) = (false ∷ q, ap (λ (x : ℕ). x * 2) e)
more (suc zero) m l (q, e) = (true ∷ q, ap (λ (x : ℕ). bit_xor 0x14003 (x * 2)) e)
more (suc (suc d)) m l x = absurd (omega arith)

shift : (n k : ℕ) → n * 2 ^ suc k ≡ n * 2 ^ k * 2
shift n k = ap (λ (x : ℕ). n * x) (pow-suc 2 k) ∙ sym (mul_assoc n (2 ^ k) 2)

-- a bit of a number with k more bits behind it
pub step : (k x n : ℕ) → bit_xor (x % 2 * 0x14003) (bit_xor (crc_bit x) (n * 2 ^ k) * 2) ≡ bit_xor x (n * 2 ^ suc k)
step k x n =
    ap (bit_xor (x % 2 * 0x14003)) (twice (crc_bit x) (n * 2 ^ k))
    ∙ sym (xor_assoc (x % 2 * 0x14003) (crc_bit x * 2) (n * 2 ^ k * 2))
    ∙ ap₂ bit_xor (one x) (sym (shift n k))

-- what is a multiple after k bits was one before them
rebuilt : (k x n : ℕ) → Multiple (bit_xor (crc_bits k x) n) → Multiple (bit_xor x (n * 2 ^ k))
unfolding crc_bits
rebuilt zero x n h = subst (λ (y : ℕ). Multiple (bit_xor x y)) (sym (mul-one n)) h
rebuilt (suc k) x n h =
    subst Multiple (step k x n) (more (x % 2) (bit_xor (crc_bit x) (n * 2 ^ k)) (mod-lt x two_pos) (rebuilt k (crc_bit x) n h))

-- a byte in front of a number
pub front : (c b n : ℕ) → b < 256 → bit_xor (bit_xor c b) (n * 2 ^ 8) ≡ bit_xor c (b + 256 * n)
front c b n l =
    let e : bit_xor b (n * 2 ^ 8) ≡ b + 256 * n = xor_comm b (n * 2 ^ 8) ∙ xor_shifted n 8 b l ∙ omega arith in
    xor_assoc c b (n * 2 ^ 8) ∙ ap (bit_xor c) e

-- a message of which a register leaves nothing
down : (s : List ℕ) (c : ℕ) → Bytes s → crc_from c s ≡ 0 → Multiple (bit_xor c (number s))
unfolding crc_from number product
down [] c l e = ([], xor_zero_r c ∙ e)
down (b ∷ s) c l e =
    subst Multiple (front c b (number s) (l 0)) (rebuilt 8 (bit_xor c b) (number s) (down s (crc_byte c b) (λ k. l (suc k)) e))

-- what passes has its two bytes of checksum, and is divisible
pub divides : (s : List ℕ) → Bytes s → passes_of s ≡ true → (2 ≤ length s) × Divisible s
unfolding crc_of
divides s l p = (
  omega (arith, ap length (passes_sealed s p), length_sealed (unsealed s)),
  subst Multiple (xor_comm 0xffff (number s)) (down s 0xffff l (passes_zero s p)),
)
