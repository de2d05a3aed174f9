-- Laws of text: bytes are put in parts, a decimal goes digit by digit and is what std writes of a number, and an empty line says what was put into
-- it.
-- Assumes nothing.
use mathlib.Core.Path.{◌≡◌, refl, sym, ap, ◌∙◌}
use mathlib.Core.Bool.{Bool, true, false, cond}
use mathlib.Core.List.{List, [], ◌∷◌, ◌++◌, append-nil}
use Prim.Native.Nat.{ℕ, zero, suc, ◌+◌, ◌-◌, ◌*◌, ◌/◌, ◌%◌, ◌^◌, ◌≤◌, ◌<◌}
use native.Mathlib.Nat.{pow-suc}
use native.Mathlib.Numerals.{add-one}
use native.Mathlib.Omega.{arith}
use borrow.Author.Tests.{lt-ltb, le-ltb, ltb-true, ltb-false}
use lib.Dec.{ltb}
use lib.ListN.{length, take, set, length-append, length-set}
use lib.Seq.{take-suc-set, append_snoc}
use Rattle.std.proofs.Common.{rules}
use Rattle.std.specs.Fmt.{decimal}
use Rattle.std.proofs.lemmas.Fmt.{AppendsLastDigit, decimal_from_appends, length-decimal-le_succ}
use Rattle.text.specs.declared.Text.{Text}
use Rattle.text.specs.Text.{empty_text, pushed, puts, says, digit, hex_digit, digits_in, decimal_of, hex_of}

-- in parts
pub puts_append : (t : Text) (a b : List ℕ) → puts t (a ++ b) ≡ puts (puts t a) b
unfolding puts
puts_append t [] b = refl
puts_append t (x ∷ a) b = puts_append (pushed t x) a b

-- one more at the end
pub puts_last : (t : Text) (a : List ℕ) (x : ℕ) → puts t (a ++ (x ∷ [])) ≡ pushed (puts t a) x
unfolding puts
puts_last t a x = puts_append t a (x ∷ [])

-- a part, a byte behind it, and the rest
pub puts_field : (t : Text) (a : List ℕ) (x : ℕ) (b : List ℕ) → puts t (a ++ (x ∷ b)) ≡ puts (pushed (puts t a) x) b
unfolding puts
puts_field t a x b = puts_append t a (x ∷ b)

-- a decimal is what std writes of the number
last_digit : AppendsLastDigit digits_in
unfolding digits_in
last_digit = search rules

pub decimal_is : (n : ℕ) → n < 2 ^ 64 → decimal_of n ≡ decimal n
unfolding decimal_of
decimal_is n h = let short = length-decimal-le_succ n h in decimal_from_appends digits_in last_digit (suc n) n h (omega arith)

-- more places than a number needs change nothing
fewer : (k m n : ℕ) → n < k → n < m → digits_in k n ≡ digits_in m n
unfolding digits_in
fewer zero m n h g = absurd (omega arith)
fewer (suc k) zero n h g = absurd (omega arith)
fewer (suc k) (suc m) n h g = go (ltb n 10) refl (λ big. fewer k m (n / 10) (omega arith) (omega arith))
  where
    go : (b : Bool) → ltb n 10 ≡ b → (10 ≤ n → digits_in k (n / 10) ≡ digits_in m (n / 10)) →
        cond b (digit n ∷ []) (digits_in k (n / 10) ++ (digit (n % 10) ∷ [])) ≡ cond b (digit n ∷ []) (digits_in m (n / 10) ++ (digit (n % 10) ∷ []))
    go true e r = refl
    go false e r = ap (λ (l : List ℕ). l ++ (digit (n % 10) ∷ [])) (r (ltb-false n 10 e))

-- below ten a decimal is one digit
pub decimal_one : (n : ℕ) → n < 10 → decimal_of n ≡ digit n ∷ []
unfolding decimal_of digits_in
decimal_one n h = rw (lt-ltb n 10 h)

-- from ten on it is that of the tenth and one digit more
pub decimal_more : (n : ℕ) → 10 ≤ n → decimal_of n ≡ decimal_of (n / 10) ++ (digit (n % 10) ∷ [])
unfolding decimal_of digits_in
decimal_more n h =
    rw (le-ltb n 10 h) (ap (λ (l : List ℕ). l ++ (digit (n % 10) ∷ [])) (fewer n (suc (n / 10)) (n / 10) (omega arith) (omega arith)))

-- a number below a power of ten has no more digits than the power
pub decimal_short : (k n : ℕ) → n < 10 ^ suc k → length (decimal_of n) ≤ suc k
decimal_short zero n h = rw (decimal_one n h) (omega arith)
decimal_short (suc k) n h = go (ltb n 10) refl (λ big. decimal_short k (n / 10) big)
  where
    go : (b : Bool) → ltb n 10 ≡ b → (n / 10 < 10 ^ suc k → length (decimal_of (n / 10)) ≤ suc k) → length (decimal_of n) ≤ suc (suc k)
    go true e r = rw (decimal_one n (ltb-true n 10 e)) (omega arith)
    go false e r =
        let power : 10 ^ suc (suc k) ≡ 10 ^ suc k * 10 = pow-suc 10 (suc k) in
        let short = r (omega arith) in
        rw (decimal_more n (ltb-false n 10 e), length-append) (omega arith)

-- a last digit more
pub hex_more : (k n : ℕ) → 0 < k → hex_of k n ≡ hex_of (k - 1) (n / 16) ++ (hex_digit (n % 16) ∷ [])
unfolding hex_of
hex_more zero n h = absurd (omega arith)
hex_more (suc k) n h =
    let e : k ≡ suc k - 1 = omega arith in
    ap (λ (m : ℕ). hex_of m (n / 16) ++ (hex_digit (n % 16) ∷ [])) e

pub hex_length : (k n : ℕ) → length (hex_of k n) ≡ k
unfolding hex_of
hex_length zero n = refl
hex_length (suc k) n = let shorter = hex_length k (n / 16) in rw length-append (omega arith)

-- a line that says l, with room for more
record Holds (t : Text) (l : List ℕ) : Type 0 where
  whole : length t.bytes ≡ 120
  count : t.len ≡ length l
  says_it : says t ≡ l

hold_more : (t : Text) (l : List ℕ) (x : ℕ) → length l < 120 → Holds t l → Holds (pushed t x) (l ++ (x ∷ []))
unfolding pushed
hold_more t l x h w =
    let room : t.len < 120 = omega (arith, w.count) in
    rw (lt-ltb t.len 120 room)
    (record {
      whole = length-set t.bytes t.len x ∙ w.whole;
      count = ap (λ (n : ℕ). n + 1) w.count ∙ sym (length-append l (x ∷ []));
      says_it =
          ap (λ (n : ℕ). take n (set t.bytes t.len x)) (add-one t.len)
          ∙ take-suc-set t.bytes t.len x (omega (arith, w.whole))
          ∙ ap (λ (s : List ℕ). s ++ (x ∷ [])) w.says_it;
    })

holds : (t : Text) (l s : List ℕ) → length l + length s ≤ 120 → Holds t l → Holds (puts t s) (l ++ s)
unfolding puts
holds t l [] h w = rw append-nil w
holds t l (x ∷ s) h w =
    let more = hold_more t l x (omega arith) w in
    let fits : length (l ++ (x ∷ [])) + length s ≤ 120 = rw length-append (omega arith) in
    rw append_snoc at (holds (pushed t x) (l ++ (x ∷ [])) s fits more)

-- an empty line says what is put into it, up to 120 bytes
pub says_puts : (s : List ℕ) → length s ≤ 120 → says (puts empty_text s) ≡ s
unfolding empty_text
says_puts s h = (holds empty_text [] s (omega arith) (record { whole = refl; count = refl; says_it = refl })).says_it
