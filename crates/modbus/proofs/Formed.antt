-- The form of a request in 01's words: "exact length and byte count, then counts"; "Counts are 1 (for 17: 0 or 1 each, not both 0)." What has
-- this form is formed, and nothing else is. Lengths are of the body: unit, function, data.
-- Assumes nothing.
use mathlib.Core.Path.{◌≡◌, refl}
use mathlib.Core.Bool.{Bool, true, false, ◌&&◌}
use mathlib.Core.List.{List}
use Prim.Native.Nat.{ℕ, ◌+◌, ◌*◌, ◌≤◌}
use borrow.Author.Tests.{eq-eqb, le-leb, eqb-true, leb-true}
use lib.Dec.{eqb, leb}
use lib.ListN.{length, get_or}
use Rattle.word.proofs.Match.{both}
use Rattle.places.specs.Bytes.{pair_at}
use Rattle.modbus.specs.Shape.{read_formed, many_formed, both_formed, formed_of}
use Rattle.modbus.specs.Becomes.{Serves}
use Rattle.modbus.specs.Becomes as serves

-- 03, 04: offset, count
pub record ReadForm (b : List ℕ) : Type 0 where
  pub long : length b ≡ 6
  pub count : pair_at b 4 ≡ 1

-- 10: offset, count, byte count, value
pub record ManyForm (b : List ℕ) : Type 0 where
  pub long : length b ≡ 9
  pub bytes : get_or b 6 0 ≡ 2
  pub count : pair_at b 4 ≡ 1

-- 17: read offset, read count, write offset, write count, byte count, value if there is one
pub record BothForm (b : List ℕ) : Type 0 where
  pub long : length b ≡ 11 + get_or b 10 0
  pub bytes : get_or b 10 0 ≡ pair_at b 8 * 2
  pub reads : pair_at b 4 ≤ 1
  pub writes : pair_at b 8 ≤ 1
  pub one : 1 ≤ pair_at b 4 + pair_at b 8

-- 06: offset, value; 41: offset, value, message
pub data RightForm (b : List ℕ) : ℕ → Type 0 where
  three : ReadForm b → RightForm b 0x03
  four : ReadForm b → RightForm b 0x04
  six : length b ≡ 6 → RightForm b 0x06
  ten : ManyForm b → RightForm b 0x10
  seventeen : BothForm b → RightForm b 0x17
  forty_one : length b ≡ 8 → RightForm b 0x41

module _ (b : List ℕ) where
  read_formed_lem : ReadForm b → read_formed b ≡ true
  unfolding read_formed
  read_formed_lem r = rw (eq-eqb (length b) 6 r.long, eq-eqb (pair_at b 4) 1 r.count)

  pub formed : {f : ℕ} → RightForm b f → formed_of f b ≡ true
  unfolding formed_of many_formed both_formed
  formed (three r) = read_formed_lem r
  formed (four r) = read_formed_lem r
  formed (six n) = eq-eqb (length b) 6 n
  formed (ten r) = rw (eq-eqb (length b) 9 r.long, eq-eqb (get_or b 6 0) 2 r.bytes, eq-eqb (pair_at b 4) 1 r.count)
  formed (seventeen r) =
      rw (
        eq-eqb (length b) (11 + get_or b 10 0) r.long,
        eq-eqb (get_or b 10 0) (pair_at b 8 * 2) r.bytes,
        le-leb (pair_at b 4) 1 r.reads,
        le-leb (pair_at b 8) 1 r.writes,
        le-leb 1 (pair_at b 4 + pair_at b 8) r.one,
      )
  formed (forty_one n) = eq-eqb (length b) 8 n

  read_form : read_formed b ≡ true → ReadForm b
  unfolding read_formed
  read_form e =
      let p = both (eqb (length b) 6) (eqb (pair_at b 4) 1) e in
      record { long = eqb-true (length b) 6 p.0; count = eqb-true (pair_at b 4) 1 p.1 }

  many_form : many_formed b ≡ true → ManyForm b
  unfolding many_formed
  many_form e =
      let p = both (eqb (length b) 9) (eqb (get_or b 6 0) 2 && eqb (pair_at b 4) 1) e in
      let q = both (eqb (get_or b 6 0) 2) (eqb (pair_at b 4) 1) p.1 in
      record { long = eqb-true (length b) 9 p.0; bytes = eqb-true (get_or b 6 0) 2 q.0; count = eqb-true (pair_at b 4) 1 q.1 }

  both_form : both_formed b ≡ true → BothForm b
  unfolding both_formed
  both_form e =
      let some = leb 1 (pair_at b 4 + pair_at b 8) in
      let counts = leb (pair_at b 4) 1 && (leb (pair_at b 8) 1 && some) in
      let p = both (eqb (length b) (11 + get_or b 10 0)) (eqb (get_or b 10 0) (pair_at b 8 * 2) && counts) e in
      let q = both (eqb (get_or b 10 0) (pair_at b 8 * 2)) counts p.1 in
      let r = both (leb (pair_at b 4) 1) (leb (pair_at b 8) 1 && some) q.1 in
      let w = both (leb (pair_at b 8) 1) some r.1 in
      record {
        long = eqb-true (length b) (11 + get_or b 10 0) p.0;
        bytes = eqb-true (get_or b 10 0) (pair_at b 8 * 2) q.0;
        reads = leb-true (pair_at b 4) 1 r.0;
        writes = leb-true (pair_at b 8) 1 w.0;
        one = leb-true 1 (pair_at b 4 + pair_at b 8) w.1;
      }

  pub form : {u f : ℕ} → Serves u f → formed_of f b ≡ true → RightForm b f
  unfolding formed_of
  form serves.three e = three (read_form e)
  form serves.four e = four (read_form e)
  form serves.six e = six (eqb-true (length b) 6 e)
  form serves.ten e = ten (many_form e)
  form (serves.seventeen other) e = seventeen (both_form e)
  form (serves.forty_one other) e = forty_one (eqb-true (length b) 8 e)

  pub unformed : {u f : ℕ} → Serves u f → (RightForm b f → ⊥) → formed_of f b ≡ false
  unformed {u} {f} s other = go (formed_of f b) refl
    where
      go : (t : Bool) → formed_of f b ≡ t → formed_of f b ≡ false
      go true e = absurd (other (form s e))
      go false e = e
