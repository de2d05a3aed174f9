-- A body of 01's table is read field by field as it was written: each field at its own place, by the one lemma over the place.
-- Assumes nothing.
use Prim.Native.Nat.{ℕ, ◌≤◌, ◌<◌}
use mathlib.Core.Path.{◌≡◌, refl, ap, ap₂, ◌∙◌}
use mathlib.Core.List.{List, [], ◌∷◌}
use native.Mathlib.Omega.{arith}
use lib.Dec.{lit<, lit≤}
use Rattle.places.specs.Bytes.{pair_at, pair}
use Rattle.places.proofs.Place.{pair_back, pair_past}
use Rattle.modbus.specs.declared.shape.Fields.{Fields}
use Rattle.modbus.specs.Shape.{unit_of, function_of, read_fields, write_fields, request_fields}
use Rattle.modbus.specs.Mapping.{mapped_of, own_of, body_read}
use Rattle.modbus.specs.Table.{read_one, write_06, write_10, read_17, write_17, both_17, say_41}
use Rattle.modbus.specs.Becomes.{Serves}
use Rattle.modbus.specs.Becomes as serves
use Rattle.modbus.proofs.Formed.{ReadForm, RightForm, three, four, six, ten, seventeen, forty_one}
use Rattle.modbus.proofs.Checks.{Formed, by_rows, by_itself}

-- what 17 says: registers read and written, the two offsets, the value
abbrev pub sides : ℕ → ℕ → ℕ → ℕ → ℕ → Fields
sides r w from to v = record { function = 0x17; reads = r; writes = w; from = from; to = to; value = v; message = 0 }

-- ---- each has the right form

right_one : (u f o : ℕ) → ReadForm (read_one u f o)
unfolding pair_at
right_one u f o = record { long = refl; count = refl }

pub right_03 : (u o : ℕ) → RightForm (read_one u 0x03 o) 0x03
right_03 u o = three (right_one u 0x03 o)

pub right_04 : (u o : ℕ) → RightForm (read_one u 0x04 o) 0x04
right_04 u o = four (right_one u 0x04 o)

pub right_10 : (u o v : ℕ) → RightForm (write_10 u o v) 0x10
unfolding pair_at
right_10 u o v = ten (record { long = refl; bytes = refl; count = refl })

pub right_17_read : (u r w : ℕ) → RightForm (read_17 u r w) 0x17
unfolding pair_at
right_17_read u r w = seventeen (record { long = refl; bytes = refl; reads = lit≤ tt; writes = lit≤ tt; one = lit≤ tt })

pub right_17_write : (u r w v : ℕ) → RightForm (write_17 u r w v) 0x17
unfolding pair_at
right_17_write u r w v = seventeen (record { long = refl; bytes = refl; reads = lit≤ tt; writes = lit≤ tt; one = lit≤ tt })

pub right_17_both : (u r w v : ℕ) → RightForm (both_17 u r w v) 0x17
unfolding pair_at
right_17_both u r w v = seventeen (record { long = refl; bytes = refl; reads = lit≤ tt; writes = lit≤ tt; one = lit≤ tt })

-- ---- its fields

-- a field, behind what stands before it
read_at : (u f o : ℕ) → pair_at (read_one u f o) 2 ≡ o
read_at u f o = pair_back (u ∷ f ∷ []) (pair 0x0001 []) o

fields_06 : (u o v : ℕ) → request_fields 0x06 (write_06 u o v) ≡ write_fields 0x06 o v 0
unfolding request_fields
fields_06 u o v =
    ap₂ (λ (p w : ℕ). write_fields 0x06 p w 0) (pair_back (u ∷ 0x06 ∷ []) (pair v []) o) (pair_back (u ∷ 0x06 ∷ pair o []) [] v)

fields_10 : (u o v : ℕ) → request_fields 0x10 (write_10 u o v) ≡ write_fields 0x10 o v 0
unfolding request_fields
fields_10 u o v =
    ap₂ (λ (p w : ℕ). write_fields 0x10 p w 0) (pair_back (u ∷ 0x10 ∷ []) (pair 0x0001 (0x02 ∷ pair v [])) o)
    (pair_back (u ∷ 0x10 ∷ pair o (pair 0x0001 (0x02 ∷ []))) [] v)

-- 17's offsets and counts, and what follows them
abbrev sided : ℕ → ℕ → ℕ → ℕ → ℕ → List ℕ → List ℕ
sided u r n w m t = u ∷ 0x17 ∷ pair r (pair n (pair w (pair m t)))

fields_17 : (u r n w m v : ℕ) (t : List ℕ) → pair_at (sided u r n w m t) 11 ≡ v → request_fields 0x17 (sided u r n w m t) ≡ sides n m r w v
unfolding request_fields
fields_17 u r n w m v t value =
    let from = pair_back (u ∷ 0x17 ∷ []) (pair n (pair w (pair m t))) r in
    let reads = pair_back (u ∷ 0x17 ∷ pair r []) (pair w (pair m t)) n in
    let to = pair_back (u ∷ 0x17 ∷ pair r (pair n [])) (pair m t) w in
    let writes = pair_back (u ∷ 0x17 ∷ pair r (pair n (pair w []))) t m in
    rw (from, reads, to, writes, value)

value_at : (u r n w v : ℕ) → pair_at (sided u r n w 1 (0x02 ∷ pair v [])) 11 ≡ v
value_at u r n w v = pair_back (u ∷ 0x17 ∷ pair r (pair n (pair w (pair 1 (0x02 ∷ []))))) [] v

fields_41 : (u o v m : ℕ) → request_fields 0x41 (say_41 u o v m) ≡ write_fields 0x41 o v m
unfolding request_fields
fields_41 u o v m =
    let offset = pair_back (u ∷ 0x41 ∷ []) (pair v (pair m [])) o in
    let value = pair_back (u ∷ 0x41 ∷ pair o []) (pair m []) v in
    let message = pair_back (u ∷ 0x41 ∷ pair o (pair v [])) [] m in
    rw (offset, value, message)

-- "Units 1 to 4 are the lines": what the rows make of the fields
module _ (u : ℕ) (lo : 1 ≤ u) (hi : u ≤ 4) where
  other : u ≡ 5 → ⊥
  other e = omega arith

  by : (b : List ℕ) (a : Fields) → unit_of b ≡ u → function_of b < 0x80 → Serves (unit_of b) (function_of b) → RightForm b (function_of b) →
      request_fields (function_of b) b ≡ a → body_read b ≡ mapped_of u a
  by b a is low served form e =
      let p : Formed b = record { to = record { from = omega arith; upto = omega arith; below = low }; served = served; form = form } in
      by_rows b p (λ five. omega arith) ∙ ap₂ mapped_of is e

  pub reads_03 : (o : ℕ) → body_read (read_one u 0x03 o) ≡ mapped_of u (read_fields 0x03 o)
  unfolding request_fields
  reads_03 o = by (read_one u 0x03 o) (read_fields 0x03 o) refl (lit< tt) serves.three (right_03 u o) (ap (read_fields 0x03) (read_at u 0x03 o))

  pub reads_04 : (o : ℕ) → body_read (read_one u 0x04 o) ≡ mapped_of u (read_fields 0x04 o)
  unfolding request_fields
  reads_04 o = by (read_one u 0x04 o) (read_fields 0x04 o) refl (lit< tt) serves.four (right_04 u o) (ap (read_fields 0x04) (read_at u 0x04 o))

  pub writes_06 : (o v : ℕ) → body_read (write_06 u o v) ≡ mapped_of u (write_fields 0x06 o v 0)
  writes_06 o v = by (write_06 u o v) (write_fields 0x06 o v 0) refl (lit< tt) serves.six (six refl) (fields_06 u o v)

  pub writes_10 : (o v : ℕ) → body_read (write_10 u o v) ≡ mapped_of u (write_fields 0x10 o v 0)
  writes_10 o v = by (write_10 u o v) (write_fields 0x10 o v 0) refl (lit< tt) serves.ten (right_10 u o v) (fields_10 u o v)

  by_17 : (r n w m v : ℕ) (t : List ℕ) → RightForm (sided u r n w m t) 0x17 → pair_at (sided u r n w m t) 11 ≡ v →
      body_read (sided u r n w m t) ≡ mapped_of u (sides n m r w v)
  by_17 r n w m v t form e = by (sided u r n w m t) (sides n m r w v) refl (lit< tt) (serves.seventeen other) form (fields_17 u r n w m v t e)

  pub reads_17 : (r w : ℕ) → body_read (read_17 u r w) ≡ mapped_of u (sides 1 0 r w 0)
  reads_17 r w = by_17 r 1 w 0 0 (0x00 ∷ []) (right_17_read u r w) (pair_past (read_17 u r w) 11 (lit≤ tt))

  pub writes_17 : (r w v : ℕ) → body_read (write_17 u r w v) ≡ mapped_of u (sides 0 1 r w v)
  writes_17 r w v = by_17 r 0 w 1 v (0x02 ∷ pair v []) (right_17_write u r w v) (value_at u r 0 w v)

  pub does_both_17 : (r w v : ℕ) → body_read (both_17 u r w v) ≡ mapped_of u (sides 1 1 r w v)
  does_both_17 r w v = by_17 r 1 w 1 v (0x02 ∷ pair v []) (right_17_both u r w v) (value_at u r 1 w v)

  pub says_41 : (o v m : ℕ) → body_read (say_41 u o v m) ≡ mapped_of u (write_fields 0x41 o v m)
  says_41 o v m = by (say_41 u o v m) (write_fields 0x41 o v m) refl (lit< tt) (serves.forty_one other) (forty_one refl) (fields_41 u o v m)

-- unit 5's
by_five : (b : List ℕ) (a : Fields) → unit_of b ≡ 5 → function_of b < 0x80 → Serves (unit_of b) (function_of b) → RightForm b (function_of b) →
    request_fields (function_of b) b ≡ a → body_read b ≡ own_of a
by_five b a is low served form e =
    let p : Formed b = record { to = record { from = omega arith; upto = omega arith; below = low }; served = served; form = form } in
    by_itself b p is ∙ ap own_of e

pub own_03 : (o : ℕ) → body_read (read_one 5 0x03 o) ≡ own_of (read_fields 0x03 o)
unfolding request_fields
own_03 o = by_five (read_one 5 0x03 o) (read_fields 0x03 o) refl (lit< tt) serves.three (right_03 5 o) (ap (read_fields 0x03) (read_at 5 0x03 o))

pub own_04 : (o : ℕ) → body_read (read_one 5 0x04 o) ≡ own_of (read_fields 0x04 o)
unfolding request_fields
own_04 o = by_five (read_one 5 0x04 o) (read_fields 0x04 o) refl (lit< tt) serves.four (right_04 5 o) (ap (read_fields 0x04) (read_at 5 0x04 o))

pub own_06 : (o v : ℕ) → body_read (write_06 5 o v) ≡ own_of (write_fields 0x06 o v 0)
own_06 o v = by_five (write_06 5 o v) (write_fields 0x06 o v 0) refl (lit< tt) serves.six (six refl) (fields_06 5 o v)

pub own_10 : (o v : ℕ) → body_read (write_10 5 o v) ≡ own_of (write_fields 0x10 o v 0)
own_10 o v = by_five (write_10 5 o v) (write_fields 0x10 o v 0) refl (lit< tt) serves.ten (right_10 5 o v) (fields_10 5 o v)
