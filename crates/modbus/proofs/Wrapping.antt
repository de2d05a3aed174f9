-- Both wrappings keep the laws that are used of one; and what follows from these: a body is read alike in each.
-- Assumes nothing.
use Prim.Native.Nat.{ℕ, zero, suc, ◌-◌, ◌≤◌, ◌<◌}
use mathlib.Core.Path.{◌≡◌, refl, sym, ap, ◌∙◌}
use mathlib.Core.Logic.{◌⊎◌, inl, inr}
use mathlib.Core.Bool.{true}
use mathlib.Core.List.{List, [], ◌∷◌}
use native.Mathlib.Omega.{arith}
use borrow.Author.Tests.{le-leb, lt-leb, eq-eqb, leb-true, eqb-true}
use lib.Dec.{lit<}
use lib.ListN.{length, take, drop}
use Rattle.refusals.specs.declared.Refusal.{Refusal}
use Rattle.refusals.specs.declared.Refusal.TheVariants.{WrongLength}
use Rattle.word.specs.Checks.{Fails, here, later, Passes, none, all}
use Rattle.word.proofs.Checks.{refuses, goes_on}
use Rattle.crc.specs.Crc.{passes_of, sealed}
use Rattle.crc.proofs.Sealed.{unsealed_sealed, length_sealed, sealed_passes, passes_sealed}
use Rattle.places.specs.Bytes.{pair_at, pair}
use Rattle.places.proofs.Place.{pair_back, pair_again}
use Rattle.modbus.specs.declared.MessageForm.{MessageForm}
use Rattle.modbus.specs.declared.MessageForm.TheVariants.{Serial, Tcp}
use Rattle.modbus.specs.declared.Reading.TheVariants.{Silent}
use Rattle.modbus.specs.declared.Reply.{Reply}
use Rattle.modbus.specs.Mapping.{body_read}
use Rattle.modbus.specs.Wire.{body_of, least_room}
use Rattle.modbus.specs.Wrapping.{Wrapping, serial_checks, serial, tcp_checks, headed, tcp, wrapping_of, reads, writes}
use Rattle.modbus.specs.Becomes.{Bytes}
use Rattle.modbus.specs.Lawful.{Among, Lawful}
use Rattle.modbus.proofs.Replies.{short_body}

-- ---- serial

take_bytes : (n : ℕ) (s : List ℕ) → Bytes s → Bytes (take n s)
take_bytes zero s h k = lit< tt
take_bytes (suc n) [] h k = lit< tt
take_bytes (suc n) (x ∷ s) h zero = h 0
take_bytes (suc n) (x ∷ s) h (suc k) = take_bytes n s (λ j. h (suc j)) k

serial_eleven : (b : List ℕ) → (length b < 2) ⊎ (254 < length b) → Fails (serial_checks (sealed b)) WrongLength
serial_eleven b (inl short) = let n = length_sealed b in here (lt-leb 4 (length (sealed b)) (omega arith))
serial_eleven b (inr long) =
    let n = length_sealed b in
    later (le-leb 4 (length (sealed b)) (omega arith)) (here (lt-leb (length (sealed b)) 256 (omega arith)))

passing : (s : List ℕ) → Passes (serial_checks s) → passes_of s ≡ true
passing s (all short (all long (all passes rest))) = passes

serial_listed : (s : List ℕ) (r : Refusal) → Fails (serial_checks s) r → Among serial.silences r
serial_listed s r (here e) = inl refl
serial_listed s r (later e (here f)) = inl refl
serial_listed s r (later e (later f (here g))) = inr (inl refl)
serial_listed s r (later e (later f (later g x))) = elim x [ ]

pub serial_lawful : Lawful serial
serial_lawful = record {
  unwraps = λ t b. unsealed_sealed b;
  empty = refl;
  echoes = λ t b c. refl;
  passes = λ t b h k.
      let n = length_sealed b in
      all (le-leb 4 (length (sealed b)) (omega arith)) (all (le-leb (length (sealed b)) 256 (omega arith)) (all (sealed_passes b) none));
  eleven = λ t b. serial_eleven b;
  rewraps = λ s h p. passes_sealed s (passing s p);
  bytes = λ s h. take_bytes (length s - 2) s h;
  listed = serial_listed;
  fits = λ t b. omega (arith, length_sealed b);
}

-- ---- TCP

drop_bytes : (n : ℕ) (s : List ℕ) → Bytes s → Bytes (drop n s)
drop_bytes zero s h k = h k
drop_bytes (suc n) [] h k = lit< tt
drop_bytes (suc n) (x ∷ s) h k = drop_bytes n s (λ j. h (suc j)) k

-- each field behind those before it
transaction_back : (t : ℕ) (b : List ℕ) → tcp.transaction (headed t b) ≡ t
transaction_back t b = pair_back [] _ t

protocol_back : (t : ℕ) (b : List ℕ) → pair_at (headed t b) 2 ≡ 0
protocol_back t b = pair_back (pair t []) (pair (length b) b) 0

length_back : (t : ℕ) (b : List ℕ) → pair_at (headed t b) 4 ≡ length b
length_back t b = pair_back (pair t (pair 0 [])) b (length b)

tcp_eleven : (t : ℕ) (b : List ℕ) → (length b < 2) ⊎ (254 < length b) → Fails (tcp_checks (headed t b)) WrongLength
tcp_eleven t b (inl short) = here (lt-leb 8 (length (headed t b)) (omega arith))
tcp_eleven t b (inr long) = later (le-leb 8 (length (headed t b)) (omega arith)) (here (lt-leb (length (headed t b)) 260 (omega arith)))

tcp_rewraps : (s : List ℕ) → Bytes s → Passes (tcp_checks s) → headed (pair_at s 0) (drop 6 s) ≡ s
tcp_rewraps (x0 ∷ x1 ∷ x2 ∷ x3 ∷ x4 ∷ x5 ∷ b) h (all short (all long (all protocol (all counted rest)))) =
    let s = x0 ∷ x1 ∷ x2 ∷ x3 ∷ x4 ∷ x5 ∷ b in
    let n : length s - 6 ≡ length b = omega arith in
    let e : pair_at s 4 ≡ length b = eqb-true _ _ counted ∙ n in
    sym (pair_again s 0 (pair_at s 0) (h 1) refl (pair_again s 2 0 (h 3) (eqb-true _ _ protocol) (pair_again s 4 (length b) (h 5) e refl)))
tcp_rewraps [] h (all short p) = absurd (let n = leb-true 8 0 short in omega arith)
tcp_rewraps (x0 ∷ []) h (all short p) = absurd (let n = leb-true 8 1 short in omega arith)
tcp_rewraps (x0 ∷ x1 ∷ []) h (all short p) = absurd (let n = leb-true 8 2 short in omega arith)
tcp_rewraps (x0 ∷ x1 ∷ x2 ∷ []) h (all short p) = absurd (let n = leb-true 8 3 short in omega arith)
tcp_rewraps (x0 ∷ x1 ∷ x2 ∷ x3 ∷ []) h (all short p) = absurd (let n = leb-true 8 4 short in omega arith)
tcp_rewraps (x0 ∷ x1 ∷ x2 ∷ x3 ∷ x4 ∷ []) h (all short p) = absurd (let n = leb-true 8 5 short in omega arith)

tcp_listed : (s : List ℕ) (r : Refusal) → Fails (tcp_checks s) r → Among tcp.silences r
tcp_listed s r (here e) = inl refl
tcp_listed s r (later e (here f)) = inl refl
tcp_listed s r (later e (later f (here g))) = inr (inl refl)
tcp_listed s r (later e (later f (later g (here i)))) = inr (inr (inl refl))
tcp_listed s r (later e (later f (later g (later i x)))) = elim x [ ]

pub tcp_lawful : Lawful tcp
tcp_lawful = record {
  unwraps = λ t b. refl;
  empty = refl;
  echoes = λ t b c. ap (λ (x : ℕ). headed x c) (transaction_back t b);
  passes = λ t b h k.
      let n : length (headed t b) - 6 ≡ length b = omega arith in
      all (le-leb 8 (length (headed t b)) (omega arith))
      (all (le-leb (length (headed t b)) 260 (omega arith))
      (all (eq-eqb _ 0 (protocol_back t b)) (all (eq-eqb _ _ (length_back t b ∙ sym n)) none)));
  eleven = tcp_eleven;
  rewraps = tcp_rewraps;
  bytes = drop_bytes 6;
  listed = tcp_listed;
  fits = λ t b. omega arith;
}

-- "A box has either the serial or the TCP form."
pub lawful : (f : MessageForm) → Lawful (wrapping_of f)
lawful Serial = serial_lawful
lawful Tcp = tcp_lawful

-- a TCP message has its own transaction. (A serial one has none: the law `echoes` of it speaks of nothing.)
pub own_transaction : (t : ℕ) (b : List ℕ) → tcp.transaction (tcp.wraps t b) ≡ t
own_transaction = transaction_back

-- ---- what follows, for each lawful wrapping

module _ {W : Wrapping} (law : Lawful W) where
  -- a body of 2 to 254 bytes is read as it is in no wrapping, and every other is refused with 11
  pub as_its_body : (t : ℕ) (b : List ℕ) → 2 ≤ length b → length b ≤ 254 → reads W (W.wraps t b) ≡ body_read b
  unfolding reads
  as_its_body t b h k = goes_on Silent (body_read (W.body (W.wraps t b))) (law.passes t b h k) ∙ ap body_read (law.unwraps t b)

  pub not_sized : (t : ℕ) (b : List ℕ) → (length b < 2) ⊎ (254 < length b) → reads W (W.wraps t b) ≡ Silent WrongLength
  unfolding reads
  not_sized t b h = refuses Silent (body_read (W.body (W.wraps t b))) (law.eleven t b h)

  -- a reply's body is found in its bytes, and these fit into the least room
  pub whole : (t : ℕ) (r : Reply) → W.body (writes W t r) ≡ body_of r
  unfolding writes
  whole t r = law.unwraps t (body_of r)

  pub room_enough : (t : ℕ) (r : Reply) → length (writes W t r) ≤ least_room
  unfolding writes
  room_enough t r = omega (arith, law.fits t (body_of r), short_body r)

-- every serial reply passes the test that messages have to pass: its checksum stands behind it, "low byte first"
pub reply_passes : (t : ℕ) (r : Reply) → passes_of (writes serial t r) ≡ true
unfolding writes
reply_passes t r = sealed_passes (body_of r)
