-- Every message of bytes becomes what 01's order of checks and 02's Ask 4 make of it (specs/Arrives), in either form, and nothing else.
-- Assumes nothing.
use Prim.Native.Nat.{ℕ, ◌+◌, ◌*◌, ◌-◌, ◌≤◌, ◌<◌}
use mathlib.Core.Path.{◌≡◌, refl, sym, ap, ◌∙◌, subst}
use mathlib.Core.Logic.{◌⊎◌, inl, inr}
use mathlib.Core.Bool.{Bool, true, false}
use mathlib.Core.List.{List, ◌∷◌}
use native.Mathlib.Omega.{arith}
use borrow.Author.Tests.{leb-true, leb-false, eqb-true, eqb-false}
use lib.ListN.{length, get_or, drop, length-drop}
use lib.Seq.{length-take-le}
use Rattle.refusals.specs.declared.Refusal.{Refusal}
use Rattle.word.specs.Checks.{Fails, here, later, Passes, all}
use Rattle.word.proofs.Checks.{either}
use Rattle.word.proofs.Clash.{clash}
use Rattle.crc.specs.Crc.{passes_of, sealed, unsealed}
use Rattle.crc.proofs.Sealed.{passes_sealed, sealed_passes}
use Rattle.places.specs.Bytes.{pair_at}
use Rattle.places.proofs.Place.{pair_again}
use Rattle.modbus.specs.declared.MessageForm.{MessageForm}
use Rattle.modbus.specs.declared.MessageForm.TheVariants.{Serial, Tcp}
use Rattle.modbus.specs.Numbers.{Verdict, reading_verdict}
use Rattle.modbus.specs.Wrapping.{Wrapping, serial_checks, serial, tcp_checks, headed, tcp, wrapping_of, reads}
use Rattle.modbus.specs.Becomes.{Bytes, Becomes}
use Rattle.modbus.specs.Arrives.{
  Arrives,
  serial_short,
  serial_long,
  serial_broken,
  serial_body,
  tcp_short,
  tcp_long,
  tcp_protocol,
  tcp_length,
  tcp_body,
}
use Rattle.modbus.specs.Lawful.{Lawful}
use Rattle.modbus.proofs.Checks.{eleven, twelve, eleven_tcp, seventeen, eighteen}
use Rattle.modbus.proofs.Wrapping.{serial_lawful, tcp_lawful, as_its_body}
use Rattle.modbus.proofs.Becomes as body

-- ---- what is said of a message is so

module _ {W : Wrapping} (law : Lawful W) (s : List ℕ) (h : Bytes s) where
  -- a body in its wrapping becomes what the body does
  as_body : (t : ℕ) (b : List ℕ) {v : Verdict} → 2 ≤ length b → length b ≤ 254 → s ≡ W.wraps t b → Becomes b v → reading_verdict (reads W s) ≡ v
  as_body t b from upto e is =
      let bytes : Bytes b = subst (λ (l : List ℕ). Bytes l) (ap W.body e ∙ law.unwraps t b) (law.bytes s h) in
      ap (λ (l : List ℕ). reading_verdict (reads W l)) e ∙ ap reading_verdict (as_its_body law t b from upto) ∙ body.only b bytes is

-- a message is its body with its checksum, or doesn't pass
broken : (s : List ℕ) → ((b : List ℕ) → s ≡ sealed b → ⊥) → passes_of s ≡ false
broken s off = go (passes_of s) refl
  where
    go : (t : Bool) → passes_of s ≡ t → passes_of s ≡ false
    go true e = absurd (off (unsealed s) (sym (passes_sealed s e)))
    go false e = e

-- the header of a body of at most 254 bytes
pub head : (t : ℕ) (b : List ℕ) (high low : ℕ) → low < 256 → t ≡ high * 256 + low → length b ≤ 254 →
    headed t b ≡ high ∷ low ∷ 0 ∷ 0 ∷ 0 ∷ length b ∷ b
unfolding pair_at
head t b high low small is upto =
    let s = high ∷ low ∷ 0 ∷ 0 ∷ 0 ∷ length b ∷ b in
    sym (pair_again s 0 t small (sym is) (pair_again s 2 0 (omega arith) refl (pair_again s 4 (length b) (omega arith) (omega arith) refl)))

module _ (s : List ℕ) (h : Bytes s) where
  protocol_no : (get_or s 2 0 ≡ 0 → get_or s 3 0 ≡ 0 → ⊥) → pair_at s 2 ≡ 0 → ⊥
  unfolding pair_at
  protocol_no off e = off (omega arith) (omega arith)

  protocol_is : pair_at s 2 ≡ 0 → (get_or s 2 0 ≡ 0) × (get_or s 3 0 ≡ 0)
  unfolding pair_at
  protocol_is e = (omega arith, omega arith)

  pub two_bytes : pair_at s 0 ≡ get_or s 0 0 * 256 + get_or s 1 0
  unfolding pair_at
  two_bytes = refl

  length_is : 8 ≤ length s → 6 + (256 * get_or s 4 0 + get_or s 5 0) ≡ length s → pair_at s 4 ≡ length s - 6
  unfolding pair_at
  length_is from e = omega arith

  length_no : 8 ≤ length s → (6 + (256 * get_or s 4 0 + get_or s 5 0) ≡ length s → ⊥) → 6 + pair_at s 4 ≡ length s → ⊥
  unfolding pair_at
  length_no from off e = off (omega arith)

  protocol_yes : get_or s 2 0 ≡ 0 → get_or s 3 0 ≡ 0 → pair_at s 2 ≡ 0
  unfolding pair_at
  protocol_yes p q = omega arith

  pub only : {f : MessageForm} {v : Verdict} → Arrives s f v → reading_verdict (reads (wrapping_of f) s) ≡ v
  only (serial_short n) = eleven s (inl n)
  only (serial_long n) = eleven s (inr n)
  only (serial_broken from upto off) = twelve s from upto (broken s off)
  only (serial_body b from upto e is) = as_body serial_lawful s h 0 b from upto e is
  only (tcp_short n) = eleven_tcp s (inl n)
  only (tcp_long n) = eleven_tcp s (inr n)
  only (tcp_protocol from upto off) = seventeen s from upto (protocol_no off)
  only (tcp_length from upto p q off) = eighteen s from upto (protocol_yes p q) (length_no from off)
  only (tcp_body high low b from upto e is) =
      let small : low < 256 = subst (λ (l : List ℕ). get_or l 1 0 < 256) e (h 1) in
      as_body tcp_lawful s h (high * 256 + low) b from upto (e ∙ sym (head (high * 256 + low) b high low small refl upto)) is

-- ---- and something is said of every one

module _ (s : List ℕ) (h : Bytes s) where
  -- what the form's wrapping reads is what arrives
  as_read : {f : MessageForm} {v : Verdict} → Arrives s f v → Arrives s f (reading_verdict (reads (wrapping_of f) s))
  as_read {f} a = subst (Arrives s f) (sym (only s h a)) a

  serial_arrives : ((r : Refusal) × Fails (serial_checks s) r) ⊎ Passes (serial_checks s) → Arrives s Serial (reading_verdict (reads serial s))
  serial_arrives (inl (r, here e)) = as_read (serial_short (leb-false 4 (length s) e))
  serial_arrives (inl (r, later e (here f))) = as_read (serial_long (leb-false (length s) 256 f))
  serial_arrives (inl (r, later e (later f (here g)))) =
      as_read
      (serial_broken (leb-true 4 (length s) e) (leb-true (length s) 256 f)
      (λ b is. let passes = ap passes_of is ∙ sealed_passes b in clash cc))
  serial_arrives (inl (r, later e (later f (later g x)))) = elim x [ ]
  serial_arrives (inr (all e (all f (all g p)))) =
      let from = leb-true 4 (length s) e in
      let upto = leb-true (length s) 256 f in
      let n : length (unsealed s) ≡ length s - 2 = length-take-le (length s - 2) s (omega arith) in
      as_read
      (serial_body (unsealed s) (omega arith) (omega arith) (sym (passes_sealed s g)) (body.becomes (unsealed s) (serial_lawful.bytes s h)))

  tcp_arrives : ((r : Refusal) × Fails (tcp_checks s) r) ⊎ Passes (tcp_checks s) → Arrives s Tcp (reading_verdict (reads tcp s))
  tcp_arrives (inl (r, here e)) = as_read (tcp_short (leb-false 8 (length s) e))
  tcp_arrives (inl (r, later e (here f))) = as_read (tcp_long (leb-false (length s) 260 f))
  tcp_arrives (inl (r, later e (later f (here g)))) =
      as_read
      (tcp_protocol (leb-true 8 (length s) e) (leb-true (length s) 260 f) (λ p q. eqb-false (pair_at s 2) 0 g (protocol_yes s h p q)))
  tcp_arrives (inl (r, later e (later f (later g (here i))))) =
      let from = leb-true 8 (length s) e in
      let fields = protocol_is s h (eqb-true (pair_at s 2) 0 g) in
      as_read (tcp_length from (leb-true (length s) 260 f) fields.0 fields.1 (λ is. eqb-false (pair_at s 4) (length s - 6) i (length_is s h from is)))
  tcp_arrives (inl (r, later e (later f (later g (later i x))))) = elim x [ ]
  tcp_arrives (inr (all e (all f p))) =
      let from = leb-true 8 (length s) e in
      let upto = leb-true (length s) 260 f in
      let n : length (drop 6 s) ≡ length s - 6 = length-drop 6 s in
      let is : headed (pair_at s 0) (drop 6 s) ≡ get_or s 0 0 ∷ get_or s 1 0 ∷ 0 ∷ 0 ∷ 0 ∷ length (drop 6 s) ∷ drop 6 s =
      head (pair_at s 0) (drop 6 s) (get_or s 0 0) (get_or s 1 0) (h 1) (two_bytes s h) (omega arith) in
      as_read
      (tcp_body (get_or s 0 0) (get_or s 1 0) (drop 6 s) (omega arith) (omega arith) (sym (tcp_lawful.rewraps s h (all e (all f p))) ∙ is)
      (body.becomes (drop 6 s) (tcp_lawful.bytes s h)))

  pub arrives : (f : MessageForm) → Arrives s f (reading_verdict (reads (wrapping_of f) s))
  arrives Serial = serial_arrives (either (serial_checks s))
  arrives Tcp = tcp_arrives (either (tcp_checks s))
