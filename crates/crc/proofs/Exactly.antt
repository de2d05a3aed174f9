-- A message of two bytes or more that is divisible passes: the steps of proofs/Divides, the other way. What is left of a multiple is a multiple, and
-- none but 0 is left in a register of 16 digits.
-- Assumes nothing.
use mathlib.Core.Path.{◌≡◌, refl, sym, ap, ap₂, subst, ◌∙◌}
use mathlib.Core.Logic.{◌⊎◌, inl, inr, ⊎_elim}
use mathlib.Core.Bool.{Bool, true, false}
use mathlib.Core.List.{List, [], ◌∷◌, ◌++◌}
use Prim.Native.Nat.{ℕ, zero, suc, ◌+◌, ◌-◌, ◌*◌, ◌/◌, ◌%◌, ◌^◌, ◌<◌, ◌≤◌}
use native.Mathlib.Nat.{lt_of_not-le, mod-lt, mul-one}
use native.Mathlib.Omega.{arith}
use lib.Bits.{bit_xor, differ, xor_comm, xor_lt, xor_zero_r}
use lib.Dec.{lit≤}
use lib.ListN.{length, get_or, take}
use lib.Seq.{take-length}
use Rattle.word.proofs.Parity.{two_pos}
use Rattle.crc.specs.Crc.{crc_bit, crc_bits, crc_byte, crc_from, crc_of, sealed, unsealed, passes_of}
use Rattle.crc.specs.Divides.{Bytes, number, product, Divisible}
use Rattle.crc.proofs.Linear.{low, again}
use Rattle.crc.proofs.Changed.{along, equal, bits_lt, apart, two}
use Rattle.crc.proofs.Divides.{Multiple, even, step, front}
use Rattle.crc.proofs.Sealed.{ends, sealed_passes}

-- the lowest digit of a multiple, and the multiple above it
lowest : (d m : ℕ) → d < 2 → bit_xor (d * 0x14003) (m * 2) % 2 ≡ d
lowest d m l = low (d * 0x14003) (m * 2) ∙ ap (differ (d * 0x14003 % 2)) (even m) ∙ odd d l
  where
    odd : (d : ℕ) → d < 2 → differ (d * 0x14003 % 2) 0 ≡ d
    odd zero l = refl
    odd (suc zero) l = refl
    odd (suc (suc d)) l = absurd (omega arith)

above : (d e m n : ℕ) → d < 2 → e < 2 → bit_xor (d * 0x14003) (m * 2) ≡ bit_xor (e * 0x14003) (n * 2) → m ≡ n
above d e m n l r p =
    let same : d ≡ e = sym (lowest d m l) ∙ ap (λ (x : ℕ). x % 2) p ∙ lowest e n r in
    let u = e * 0x14003 in
    let q : bit_xor u (m * 2) ≡ bit_xor u (n * 2) = ap (λ (x : ℕ). bit_xor (x * 0x14003) (m * 2)) (sym same) ∙ p in
    let twofold : m * 2 ≡ n * 2 = sym (again u (m * 2)) ∙ ap (bit_xor u) q ∙ again u (n * 2) in
    omega arith

halved : (x m : ℕ) → Multiple (bit_xor (x % 2 * 0x14003) (m * 2)) → Multiple m
unfolding product
halved x m ([], e) = ([], above (x % 2) 0 m 0 (mod-lt x two_pos) two_pos e)
halved x m (true ∷ q, e) = (q, above (x % 2) 1 m (product q 0x14003) (mod-lt x two_pos) (omega arith) e)
halved x m (false ∷ q, e) = (q, above (x % 2) 0 m (product q 0x14003) (mod-lt x two_pos) two_pos e)

-- what is a multiple is one after k bits
stripped : (k x n : ℕ) → Multiple (bit_xor x (n * 2 ^ k)) → Multiple (bit_xor (crc_bits k x) n)
unfolding crc_bits
stripped zero x n h = subst (λ (y : ℕ). Multiple (bit_xor x y)) (mul-one n) h
stripped (suc k) x n h = stripped k (crc_bit x) n (halved x (bit_xor (crc_bit x) (n * 2 ^ k)) (subst Multiple (sym (step k x n)) h))

-- what a register leaves of a multiple
up : (s : List ℕ) (c : ℕ) → Bytes s → Multiple (bit_xor c (number s)) → Multiple (crc_from c s)
unfolding crc_from number
up [] c l h = subst Multiple (xor_zero_r c) h
up (b ∷ s) c l h =
    up s (crc_byte c b) (λ k. l (suc k)) (stripped 8 (bit_xor c b) (number s) (subst Multiple (sym (front c b (number s) (l 0))) h))

-- no multiple but 0 has fewer digits than the divisor
large : (q : List Bool) → (product q 0x14003 ≡ 0) ⊎ (65536 ≤ product q 0x14003)
unfolding product
large [] = inl refl
large (true ∷ q) = inr (odd (product q 0x14003) (large q))
  where
    wide : (x : ℕ) → x ≤ 65535 → x < 131072
    wide x h = omega arith

    narrow : (p : ℕ) → 65536 ≤ p → p * 2 < 131072 → ⊥
    narrow p l h = omega arith

    small : (p : ℕ) → bit_xor 0x14003 (p * 2) ≤ 65535 → p * 2 < 131072
    small p h =
        subst (λ (x : ℕ). x < 131072) (again 0x14003 (p * 2)) (xor_lt 17 0x14003 (bit_xor 0x14003 (p * 2)) (lit≤ tt) (wide (bit_xor 0x14003 (p * 2)) h))

    odd : (p : ℕ) → (p ≡ 0) ⊎ (65536 ≤ p) → 65536 ≤ bit_xor 0x14003 (p * 2)
    odd p (inl e) = subst (λ (x : ℕ). 65536 ≤ bit_xor 0x14003 (x * 2)) (sym e) (lit≤ tt)
    odd p (inr l) = lt_of_not-le {n = bit_xor 0x14003 (p * 2)} {m = 65535} (λ h. narrow p l (small p h))
large (false ∷ q) = doubled (product q 0x14003) (large q)
  where
    doubled : (p : ℕ) → (p ≡ 0) ⊎ (65536 ≤ p) → (p * 2 ≡ 0) ⊎ (65536 ≤ p * 2)
    doubled p (inl e) = inl (omega arith)
    doubled p (inr l) = inr (omega arith)

-- a register of 16 digits stays one, over any bytes from the front
within : (n : ℕ) (s : List ℕ) (c : ℕ) → Bytes s → c < 65536 → crc_from c (take n s) < 65536
unfolding crc_from
within zero s c l h = h
within (suc n) [] c l h = h
within (suc n) (b ∷ s) c l h =
    within n s (crc_byte c b) (λ k. l (suc k)) (bits_lt 8 (bit_xor c b) (xor_lt 16 c b h (omega (arith, l 0))))

-- nothing is left of what is divisible
nothing : (s : List ℕ) → Bytes s → crc_of s < 65536 → Divisible s → crc_of s ≡ 0
unfolding crc_of
nothing s l h d = left (up s 0xffff l (subst Multiple (xor_comm (number s) 0xffff) d))
  where
    left : Multiple (crc_from 0xffff s) → crc_from 0xffff s ≡ 0
    left (q, e) = ⊎_elim (λ z. e ∙ z) (λ g. absurd (omega (arith, e))) (large q)

-- two bytes after which nothing is left are the register's own
own : (c x y : ℕ) → c < 65536 → x < 256 → y < 256 → crc_from c (x ∷ y ∷ []) ≡ 0 → (x ≡ c % 256) × (y ≡ c / 256)
unfolding crc_from crc_bits
own c x y h lx ly e =
    let m = y * 256 + x in
    let small : bit_xor (bit_xor m c) 0 < 65536 =
    subst (λ (z : ℕ). z < 65536) (sym (xor_zero_r (bit_xor m c))) (xor_lt 16 m c (omega arith) h) in
    let none = apart (0 ∷ 0 ∷ []) (bit_xor m c) 0 small (sym (two c x y [] lx) ∙ e) in
    let is : m ≡ c = equal m c none in (
      omega arith,
      omega arith,
    )

-- what has two bytes and is divisible passes
pub exactly : (s : List ℕ) → Bytes s → 2 ≤ length s → Divisible s → passes_of s ≡ true
unfolding crc_of sealed
exactly s l h d =
    let n = length s - 2 in
    let x = get_or s n 0 in
    let y = get_or s (n + 1) 0 in
    let a = unsealed s in
    let c = crc_of a in
    let parts = ends s h in
    let whole = ap (crc_from 0xffff) (take-length s) in
    let few = subst (λ (z : ℕ). z < 65536) whole (within (length s) s 0xffff l (lit≤ tt)) in
    let none : crc_from c (x ∷ y ∷ []) ≡ 0 = sym (along 0xffff a (x ∷ y ∷ [])) ∙ sym (ap crc_of parts) ∙ nothing s l few d in
    let two = own c x y (within n s 0xffff l (lit≤ tt)) (l n) (l (n + 1)) none in
    let is : s ≡ sealed a = parts ∙ ap₂ (λ (u v : ℕ). a ++ (u ∷ v ∷ [])) two.0 two.1 in
    subst (λ (z : List ℕ). passes_of z ≡ true) (sym is) (sealed_passes a)
