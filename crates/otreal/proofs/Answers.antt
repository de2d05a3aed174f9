-- The answer that `values::bits` gives for a float is the raw number, of all 65,536 tried, that has its bits, or the refusal; and its line
-- fits the text's room, so that it is printed whole.
-- Assumes nothing.
use Rattle.std.specs.Prelude.{Result, Ok, Err}
use Rattle.refusals.specs.declared.Refusal.{Refusal}
use Rattle.refusals.specs.Numbers.{number_of}
use Rattle.std.proofs.lemmas.Bool.{cases_lt}
use mathlib.Core.Path.{◌≡◌, refl, sym, ap, ◌∙◌, subst}
use mathlib.Core.Logic.{⊎_elim}
use mathlib.Core.Bool.{Bool, true, false, not, cond}
use Prim.Native.Nat.{ℕ, zero, suc, ◌^◌, ◌≤◌, ◌<◌}
use native.Mathlib.Omega.{arith}
use borrow.Author.Tests.{eqb-true, eqb-false}
use lib.Dec.{T, eqb}
use lib.ListN.{length, length-append}
use lib.Ieee.{Float, binary32, of_bits, to_bits, is_nan}
use lib.Ieee.Bits.{of_bits-to_bits, to_bits-of_bits}
use Rattle.word.specs.Numbers.{valued, refused}
use Rattle.text.specs.Text.{empty_text, puts, says}
use Rattle.text.proofs.Puts.{decimal_short, hex_length, says_puts}
use Rattle.values.specs.Real.{real_of, negative, sized, BackOf}
use Rattle.values.specs.Numbers.{back_value}
use Rattle.values.proofs.Exact.{real_exact, real_fits}
use Rattle.values.proofs.Floats.{not_nan}
use Rattle.values.proofs.Trip.{refused_none}
use Rattle.otreal.specs.Lines.{raw_below, raw_of, line_of, printed_of}

number : Result ℕ Refusal → ℕ
number (Ok m) = m
number (Err r) = number_of r

module _ (bits : ℕ) (small : bits < 2 ^ 32) where
  -- a raw number has these float bits exactly where it gives this float
  gives : (raw : ℕ) → to_bits binary32 (real_of raw) ≡ bits → of_bits binary32 bits ≡ real_of raw
  gives raw e = sym (ap (of_bits binary32) e) ∙ of_bits-to_bits binary32 (real_of raw) (real_fits raw)

  has : (raw : ℕ) → raw < 0x1_0000 → of_bits binary32 bits ≡ real_of raw → to_bits binary32 (real_of raw) ≡ bits
  has raw h e =
      let real = not_nan (real_of raw) (negative raw) (sized raw) 256 (real_exact raw h) in
      sym (ap (to_bits binary32) e) ∙ to_bits-of_bits binary32 bits small (subst (λ (x : Float). T (not (is_nan x))) (sym e) real)

  found : (raw : ℕ) → BackOf (of_bits binary32 bits) (Ok raw) → (n : ℕ) → n ≤ 0x1_0000 → raw < n → raw_below bits n ≡ valued raw
  unfolding raw_below number
  found raw p zero u l = absurd (omega arith)
  found raw p (suc n) u l = go (eqb (to_bits binary32 (real_of n)) bits) refl (λ h. found raw p n (omega arith) h)
    where
      go : (b : Bool) → eqb (to_bits binary32 (real_of n)) bits ≡ b → (raw < n → raw_below bits n ≡ valued raw) → cond b (valued n) (raw_below bits n) ≡ valued raw
      go true e f = ap (λ (r : Result ℕ Refusal). valued (number r)) (sym (p.given n (omega arith) (gives n (eqb-true _ bits e))))
      go false e f =
          let mine = p.found raw refl in
          let here : n ≡ raw → ⊥ = λ s. eqb-false _ bits e (ap (λ (m : ℕ). to_bits binary32 (real_of m)) s ∙ has raw mine.0 mine.1) in
          f (⊎_elim (λ (h : raw < n). h) (λ (h : n ≤ raw). absurd (here (omega arith))) (cases_lt raw n))

  none : (m : Refusal) → BackOf (of_bits binary32 bits) (Err m) → (n : ℕ) → n ≤ 0x1_0000 → raw_below bits n ≡ refused 10
  unfolding raw_below
  none m p zero u = refl
  none m p (suc n) u = go (eqb (to_bits binary32 (real_of n)) bits) refl (none m p n (omega arith))
    where
      go : (b : Bool) → eqb (to_bits binary32 (real_of n)) bits ≡ b → raw_below bits n ≡ refused 10 → cond b (valued n) (raw_below bits n) ≡ refused 10
      go true e f = absurd (refused_none (of_bits binary32 bits) m p n (omega arith) (gives n (eqb-true _ bits e)))
      go false e f = f

  pub answered : (r : Result ℕ Refusal) → BackOf (of_bits binary32 bits) r → back_value r ≡ raw_of bits
  unfolding raw_of
  answered (Ok raw) p = sym (found raw p 0x1_0000 (omega arith) (p.found raw refl).0)
  answered (Err m) p = ap (λ (r : Refusal). refused (number_of r)) (p.number m refl) ∙ sym (none m p 0x1_0000 (omega arith))

  -- the text of a float's line says just that line
  short : (n : ℕ) → length (line_of (raw_below bits n)) ≤ 120
  unfolding raw_below line_of
  short zero = let d = decimal_short 4 10 (omega arith) in simp length-append (omega arith)
  short (suc n) = go (eqb (to_bits binary32 (real_of n)) bits) (short n)
    where
      go : (b : Bool) → length (line_of (raw_below bits n)) ≤ 120 → length (line_of (cond b (valued n) (raw_below bits n))) ≤ 120
      go true h = let x = hex_length 4 n in rw length-append (omega arith)
      go false h = h

  pub printed : says (puts empty_text (printed_of bits)) ≡ printed_of bits
  unfolding printed_of raw_of
  printed = says_puts (line_of (raw_below bits 0x1_0000)) (short 0x1_0000)
