-- What the steps of the checksum come to for every message, in other words than they are written in: over the whole of a message that passes it is
-- 0, and of the messages that differ in two neighbouring bytes at most, only one passes.
-- Assumes nothing.
use mathlib.Core.Path.{◌≡◌, refl, sym, ap, subst, ◌∙◌}
use mathlib.Core.Bool.{true}
use mathlib.Core.List.{List, [], ◌∷◌, ◌++◌}
use Prim.Native.Nat.{ℕ, zero, suc, ◌+◌, ◌*◌, ◌/◌, ◌%◌, ◌^◌, ◌<◌}
use native.Mathlib.Nat.{mod-lt}
use native.Mathlib.Omega.{arith}
use lib.Pow.{split, pow_pos}
use lib.Bits.{bit_xor, xor_comm, xor_lt, xor_self, xor_shifted, xor_zero_r}
use Rattle.crc.specs.Crc.{crc_bit, crc_bits, crc_byte, crc_from, crc_of, low_first, sealed, unsealed, passes_of}
use Rattle.crc.proofs.Linear.{back, xor_assoc, again, swap, linear, shifts}
use Rattle.crc.proofs.Sealed.{passes_sealed}

pub along : (c : ℕ) (a b : List ℕ) → crc_from c (a ++ b) ≡ crc_from (crc_from c a) b
unfolding crc_from
along c [] b = refl
along c (x ∷ a) b = along (crc_byte c x) a b

-- a register's own low byte leaves its high byte, and that leaves nothing
own_low : (c : ℕ) → crc_byte c (c % 256) ≡ c / 256
own_low c =
    let high = c / 2 ^ 8 * 2 ^ 8 in
    let low = c % 2 ^ 8 in
    ap (crc_bits 8)
    (ap (λ (x : ℕ). bit_xor x low) (sym (split c 8) ∙ sym (xor_shifted (c / 2 ^ 8) 8 low (mod-lt c (pow_pos 8))))
    ∙ xor_assoc high low low
    ∙ ap (bit_xor high) (xor_self low)
    ∙ xor_zero_r high)
    ∙ shifts 8 (c / 2 ^ 8)

own_high : (c : ℕ) → crc_byte c c ≡ 0
unfolding crc_bits
own_high c = ap (crc_bits 8) (xor_self c)

-- the checksum of a body and its checksum behind it
pub residue : (b : List ℕ) → crc_of (sealed b) ≡ 0
unfolding crc_of sealed crc_from
residue b =
    let c = crc_of b in
    along _ b (low_first c) ∙ ap (λ (x : ℕ). crc_byte x (c / 256)) (own_low c) ∙ own_high (c / 256)

pub passes_zero : (s : List ℕ) → passes_of s ≡ true → crc_of s ≡ 0
passes_zero s p = sym (ap crc_of (passes_sealed s p)) ∙ residue (unsealed s)

-- nothing is left of two numbers only if they are equal
pub equal : (a b : ℕ) → bit_xor a b ≡ 0 → a ≡ b
equal a b e = sym (xor_zero_r a) ∙ ap (bit_xor a) (sym e) ∙ again a b

-- 16 digits stay 16 digits, and nothing comes of nothing alone
pub bits_lt : (k x : ℕ) → x < 65536 → crc_bits k x < 65536
unfolding crc_bits
bits_lt zero x h = h
bits_lt (suc k) x h = bits_lt k (crc_bit x) (xor_lt 16 (x / 2) (back (x % 2)) (omega arith) (omega arith))

bits_none : (k x : ℕ) → x < 65536 → crc_bits k x ≡ 0 → x ≡ 0
unfolding crc_bits
bits_none zero x h e = e
bits_none (suc k) x h e =
    let none = bits_none k (crc_bit x) (bits_lt 1 x h) e in
    omega (arith, equal (x / 2) (back (x % 2)) none)

-- what is in both goes out
without : (a b x : ℕ) → bit_xor (bit_xor a x) (bit_xor b x) ≡ bit_xor a b
without a b x = swap a x b x ∙ ap (bit_xor (bit_xor a b)) (xor_self x) ∙ xor_zero_r (bit_xor a b)

-- two registers that differ are apart after any bytes
pub apart : (s : List ℕ) (a b : ℕ) → bit_xor a b < 65536 → crc_from a s ≡ crc_from b s → a ≡ b
unfolding crc_from
apart [] a b h e = e
apart (x ∷ s) a b h e =
    let both : bit_xor (crc_byte a x) (crc_byte b x) ≡ crc_bits 8 (bit_xor a b) =
    sym (linear 8 (bit_xor a x) (bit_xor b x)) ∙ ap (crc_bits 8) (without a b x) in
    let small = subst (λ (y : ℕ). y < 65536) (sym both) (bits_lt 8 (bit_xor a b) h) in
    let same = apart s (crc_byte a x) (crc_byte b x) small e in
    equal a b (bits_none 8 (bit_xor a b) h (sym both ∙ ap (λ (y : ℕ). bit_xor y (crc_byte b x)) same ∙ xor_self (crc_byte b x)))

-- two bytes, as one number that is xored into the register before either
pub two : (c x y : ℕ) (s : List ℕ) → x < 256 → crc_from c (x ∷ y ∷ s) ≡ crc_from (bit_xor (y * 256 + x) c) (0 ∷ 0 ∷ s)
unfolding crc_from
two c x y s h =
    let r = bit_xor (y * 256 + x) c in
    let joined : bit_xor (bit_xor c x) (y * 2 ^ 8) ≡ r =
    xor_assoc c x (y * 2 ^ 8)
    ∙ ap (bit_xor c) (xor_comm x (y * 2 ^ 8) ∙ xor_shifted y 8 x h)
    ∙ xor_comm c (y * 256 + x) in
    let second : bit_xor (crc_byte c x) y ≡ crc_bits 8 r =
    ap (bit_xor (crc_byte c x)) (sym (shifts 8 y)) ∙ sym (linear 8 (bit_xor c x) (y * 2 ^ 8)) ∙ ap (crc_bits 8) joined in
    let none : bit_xor (crc_byte r 0) 0 ≡ crc_bits 8 r = xor_zero_r (crc_byte r 0) ∙ ap (crc_bits 8) (xor_zero_r r) in
    ap (λ (z : ℕ). crc_from (crc_bits 8 z) s) (second ∙ sym none)

-- no message that passes does so with one or two neighbouring bytes changed, so none with one of its bits flipped
pub neighbours : (a s : List ℕ) (x y v w : ℕ) → x < 256 → y < 256 → v < 256 → w < 256
    → passes_of (a ++ x ∷ y ∷ s) ≡ true
    → passes_of (a ++ v ∷ w ∷ s) ≡ true
    → (x ≡ v) × (y ≡ w)
unfolding crc_of
neighbours a s x y v w hx hy hv hw p q =
    let c = crc_of a in
    let m = y * 256 + x in
    let n = w * 256 + v in
    let one : crc_from (bit_xor m c) (0 ∷ 0 ∷ s) ≡ 0 =
    sym (two c x y s hx) ∙ sym (along _ a (x ∷ y ∷ s)) ∙ passes_zero (a ++ x ∷ y ∷ s) p in
    let other : crc_from (bit_xor n c) (0 ∷ 0 ∷ s) ≡ 0 =
    sym (two c v w s hv) ∙ sym (along _ a (v ∷ w ∷ s)) ∙ passes_zero (a ++ v ∷ w ∷ s) q in
    let small = subst (λ (z : ℕ). z < 65536) (sym (without m n c)) (xor_lt 16 m n (omega arith) (omega arith)) in
    let same = apart (0 ∷ 0 ∷ s) (bit_xor m c) (bit_xor n c) small (one ∙ sym other) in
    let is : m ≡ n =
    equal m n (sym (without m n c) ∙ ap (λ (z : ℕ). bit_xor z (bit_xor n c)) same ∙ xor_self (bit_xor n c)) in (
      omega arith,
      omega arith,
    )
