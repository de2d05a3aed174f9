-- A body of bytes has the right form exactly if it is written out by 01's table: lengths, byte counts and counts leave nothing else.
-- Assumes nothing.
use Prim.Native.Nat.{ℕ, ◌+◌, ◌<◌}
use mathlib.Core.Path.{◌≡◌, refl, sym, ap, ◌∙◌, subst}
use mathlib.Core.Bool.{Bool, true, false}
use mathlib.Core.List.{List, [], ◌∷◌}
use native.Mathlib.Omega.{arith}
use borrow.Author.Tests.{eqb-true, eqb-false}
use lib.Dec.{eqb}
use lib.ListN.{length, get_or}
use Rattle.places.specs.Bytes.{pair_at, pair}
use Rattle.places.proofs.Place.{pair_again, spelled}
use Rattle.modbus.specs.Shape.{unit_of, function_of}
use Rattle.modbus.specs.Table.{read_one}
use Rattle.modbus.specs.Becomes.{Bytes, Spelled, in_03, in_04, in_06, in_10, in_17_read, in_17_write, in_17_both, in_41}
use Rattle.modbus.proofs.Formed.{ReadForm, ManyForm, BothForm, RightForm, three, four, six, ten, seventeen, forty_one}
use Rattle.modbus.proofs.Asked.{right_03, right_04, right_10, right_17_read, right_17_write, right_17_both}

module _ (b : List ℕ) (h : Bytes b) (f : ℕ) (is : function_of b ≡ f) where
  -- the two bytes at a place, before the rest
  at : (p v : ℕ) {t q : List ℕ} → pair_at b p ≡ v → t ≡ q → get_or b p 0 ∷ get_or b (p + 1) 0 ∷ t ≡ pair v q
  at p v e rest = pair_again b p v (h (p + 1)) e rest

  -- unit and function, before the rest
  begun : {t q : List ℕ} → t ≡ q → unit_of b ∷ function_of b ∷ t ≡ unit_of b ∷ f ∷ q
  begun {t} {q} e = ap (λ (l : List ℕ). unit_of b ∷ function_of b ∷ l) e ∙ ap (λ (g : ℕ). unit_of b ∷ g ∷ q) is

  read : ReadForm b → b ≡ read_one (unit_of b) f (pair_at b 2)
  read r = spelled b 6 r.long ∙ begun (at 2 (pair_at b 2) refl (at 4 1 r.count refl))

  many : ManyForm b → b ≡ unit_of b ∷ f ∷ pair (pair_at b 2) (pair 0x0001 (0x02 ∷ pair (pair_at b 7) []))
  many r =
      spelled b 9 r.long
      ∙ begun (at 2 (pair_at b 2) refl (at 4 1 r.count
      (ap (λ (n : ℕ). n ∷ get_or b 7 0 ∷ get_or b 8 0 ∷ []) r.bytes ∙ ap (λ (l : List ℕ). 0x02 ∷ l) (at 7 (pair_at b 7) refl refl))))

  plain : length b ≡ 6 → b ≡ unit_of b ∷ f ∷ pair (pair_at b 2) (pair (pair_at b 4) [])
  plain n = spelled b 6 n ∙ begun (at 2 (pair_at b 2) refl (at 4 (pair_at b 4) refl refl))

  with_message : length b ≡ 8 → b ≡ unit_of b ∷ f ∷ pair (pair_at b 2) (pair (pair_at b 4) (pair (pair_at b 6) []))
  with_message n = spelled b 8 n ∙ begun (at 2 (pair_at b 2) refl (at 4 (pair_at b 4) refl (at 6 (pair_at b 6) refl refl)))

  -- 17: n registers are read and none is written, or one
  no_value : (n : ℕ) → length b ≡ 11 → get_or b 10 0 ≡ 0 → pair_at b 4 ≡ n → pair_at b 8 ≡ 0 →
      b ≡ unit_of b ∷ f ∷ pair (pair_at b 2) (pair n (pair (pair_at b 6) (pair 0x0000 (0x00 ∷ []))))
  no_value n long bytes reads writes =
      spelled b 11 long
      ∙ begun (at 2 (pair_at b 2) refl (at 4 n reads (at 6 (pair_at b 6) refl (at 8 0 writes (ap (λ (k : ℕ). k ∷ []) bytes)))))

  a_value : (n : ℕ) → length b ≡ 13 → get_or b 10 0 ≡ 2 → pair_at b 4 ≡ n → pair_at b 8 ≡ 1 →
      b ≡ unit_of b ∷ f ∷ pair (pair_at b 2) (pair n (pair (pair_at b 6) (pair 0x0001 (0x02 ∷ pair (pair_at b 11) []))))
  a_value n long bytes reads writes =
      spelled b 13 long
      ∙ begun (at 2 (pair_at b 2) refl (at 4 n reads (at 6 (pair_at b 6) refl (at 8 1 writes
      (ap (λ (k : ℕ). k ∷ get_or b 11 0 ∷ get_or b 12 0 ∷ []) bytes ∙ ap (λ (l : List ℕ). 0x02 ∷ l) (at 11 (pair_at b 11) refl refl))))))

-- what has the right form is written out by the table
module _ (b : List ℕ) (h : Bytes b) where
  fits : (p : ℕ) → pair_at b p < 65536
  unfolding pair_at
  fits p = omega (arith, h p, h (p + 1))

  both_sides : BothForm b → function_of b ≡ 0x17 → Spelled (unit_of b) b 0x17
  both_sides r is = go (eqb (pair_at b 4) 0) (eqb (pair_at b 8) 0) refl refl
    where
      go : (no_read no_write : Bool) → eqb (pair_at b 4) 0 ≡ no_read → eqb (pair_at b 8) 0 ≡ no_write → Spelled (unit_of b) b 0x17
      go true true er ew = let x = eqb-true (pair_at b 4) 0 er in let y = eqb-true (pair_at b 8) 0 ew in absurd (omega (arith, r.one))
      go true false er ew =
          let y = eqb-false (pair_at b 8) 0 ew in
          let one : pair_at b 8 ≡ 1 = omega (arith, r.writes, y) in
          in_17_write (pair_at b 2) (pair_at b 6) (pair_at b 11) (fits 2) (fits 6) (fits 11)
          (a_value b h 0x17 is 0 (omega (arith, r.long, r.bytes)) (omega (arith, r.bytes)) (eqb-true (pair_at b 4) 0 er) one)
      go false true er ew =
          let x = eqb-false (pair_at b 4) 0 er in
          let none : pair_at b 8 ≡ 0 = eqb-true (pair_at b 8) 0 ew in
          in_17_read (pair_at b 2) (pair_at b 6) (fits 2) (fits 6)
          (no_value b h 0x17 is 1 (omega (arith, r.long, r.bytes)) (omega (arith, r.bytes)) (omega (arith, r.reads, x)) none)
      go false false er ew =
          let x = eqb-false (pair_at b 4) 0 er in
          let y = eqb-false (pair_at b 8) 0 ew in
          let one : pair_at b 8 ≡ 1 = omega (arith, r.writes, y) in
          in_17_both (pair_at b 2) (pair_at b 6) (pair_at b 11) (fits 2) (fits 6) (fits 11)
          (a_value b h 0x17 is 1 (omega (arith, r.long, r.bytes)) (omega (arith, r.bytes)) (omega (arith, r.reads, x)) one)

  pub out : {f : ℕ} → function_of b ≡ f → RightForm b f → Spelled (unit_of b) b f
  out is (three r) = in_03 (pair_at b 2) (fits 2) (read b h 0x03 is r)
  out is (four r) = in_04 (pair_at b 2) (fits 2) (read b h 0x04 is r)
  out is (six n) = in_06 (pair_at b 2) (pair_at b 4) (fits 2) (fits 4) (plain b h 0x06 is n)
  out is (ten r) = in_10 (pair_at b 2) (pair_at b 7) (fits 2) (fits 7) (many b h 0x10 is r)
  out is (seventeen r) = both_sides r is
  out is (forty_one n) = in_41 (pair_at b 2) (pair_at b 4) (pair_at b 6) (fits 2) (fits 4) (fits 6) (with_message b h 0x41 is n)

-- and the other way round
pub right : {u f : ℕ} {b : List ℕ} → Spelled u b f → RightForm b f
right {u} (in_03 o l e) = subst (λ (s : List ℕ). RightForm s 0x03) (sym e) (right_03 u o)
right {u} (in_04 o l e) = subst (λ (s : List ℕ). RightForm s 0x04) (sym e) (right_04 u o)
right {u} (in_06 o v l k e) = subst (λ (s : List ℕ). RightForm s 0x06) (sym e) (six refl)
right {u} (in_10 o v l k e) = subst (λ (s : List ℕ). RightForm s 0x10) (sym e) (right_10 u o v)
right {u} (in_17_read r w l k e) = subst (λ (s : List ℕ). RightForm s 0x17) (sym e) (right_17_read u r w)
right {u} (in_17_write r w v l k j e) = subst (λ (s : List ℕ). RightForm s 0x17) (sym e) (right_17_write u r w v)
right {u} (in_17_both r w v l k j e) = subst (λ (s : List ℕ). RightForm s 0x17) (sym e) (right_17_both u r w v)
right {u} (in_41 o v m l k j e) = subst (λ (s : List ℕ). RightForm s 0x41) (sym e) (forty_one refl)
