-- Each row of section 5.3 is what the table says of its id: the row's kind, readable and writable as its column Msg has it. So no row is
-- passed over for another of the same id; that none stands twice is part of the table's test (Entries).
-- Assumes nothing.
use mathlib.Core.Path.{◌≡◌, refl, sym, ap, ◌∙◌}
use mathlib.Core.Logic.{◌⊎◌, inl, inr}
use mathlib.Core.List.Memᴰ
use mathlib.Core.List.{List, [], ◌∷◌, Memᴰ}
use mathlib.Core.Bool.{Bool, true, false, cond, ◌||◌}
use Prim.Native.Nat.{ℕ, ◌/◌, ◌%◌, ◌<◌}
use native.Mathlib.Omega.{arith}
use borrow.Author.Tests.{eq-eqb, ltb-true}
use lib.Dec.{T, eqb, ltb}
use lib.ListN.{get_or}
use Rattle.ids.specs.declared.Kind.{Kind}
use Rattle.ids.specs.Ids.{kind_from, Row, row, R, W, RW, rows, rows_in, rows_of, packed, entry_of, kind_of, readable_of, writable_of}
use Rattle.word.proofs.Table.{joined}
use Rattle.ids.proofs.Entries.{table, Stands, none, one, Access, read, written, both, access_of, kind_back, low_bit, high_bit, parts, here}

id_of : Row → ℕ
id_of (row i k a) = i

kind_in : Row → Kind
kind_in (row i k a) = k

access_in : Row → ℕ
access_in (row i k a) = a

-- a row of the list is among the rows of its id
among : (l : List Row) (i : ℕ) (k : Kind) (a : ℕ) → Memᴰ (row i k a) l → Memᴰ (row i k a) (rows_in l i)
unfolding rows_in id_of
among [] i k a m = absurd (Memᴰ.not-nil m)
among (row j n b ∷ l) i k a m = go (Memᴰ.cases_cons m) (λ h. among l i k a h)
  where
    kept : (t : Bool) → Memᴰ (row i k a) (rows_in l i) → Memᴰ (row i k a) (cond t (row j n b ∷ rows_in l i) (rows_in l i))
    kept true h = Memᴰ.tail h
    kept false h = h

    go : (row i k a ≡ row j n b) ⊎ Memᴰ (row i k a) l → (Memᴰ (row i k a) l → Memᴰ (row i k a) (rows_in l i)) →
        Memᴰ (row i k a) (cond (eqb j i) (row j n b ∷ rows_in l i) (rows_in l i))
    go (inl e) f = rw (eq-eqb j i (sym (ap id_of e))) (Memᴰ.head e)
    go (inr h) f = kept (eqb j i) (f h)

-- every row is of an id below 128
within : List Row → Bool
within [] = true
within (row i k a ∷ l) = joined (ltb i 128) (within l)

below : (l : List Row) → T (within l) → (i : ℕ) (k : Kind) (a : ℕ) → Memᴰ (row i k a) l → i < 128
unfolding within id_of
below [] t i k a m = absurd (Memᴰ.not-nil m)
below (row j n b ∷ l) t i k a m = go (Memᴰ.cases_cons m) (λ h. below l (parts (ltb j 128) (within l) t).1 i k a h)
  where
    go : (row i k a ≡ row j n b) ⊎ Memᴰ (row i k a) l → (Memᴰ (row i k a) l → i < 128) → i < 128
    go (inl e) f = let same = ap id_of e in let low = ltb-true j 128 (parts (ltb j 128) (within l) t).0 in omega arith
    go (inr h) f = f h

pub low_row : (i : ℕ) (k : Kind) (a : ℕ) → Memᴰ (row i k a) rows → i < 128
unfolding within rows
low_row = below rows tt

abbrev Said : ℕ → Kind → ℕ → Type 0
Said i k a = (kind_of i ≡ k) × (readable_of i ≡ (eqb a R || eqb a RW)) × (writable_of i ≡ (eqb a W || eqb a RW))

-- "One table of 256 entries gives each id its kind and whether it may be read or written, from section 5.3": each row of it
pub each_row : (i : ℕ) (k : Kind) (a : ℕ) → Memᴰ (row i k a) rows → Said i k a
unfolding kind_of readable_of writable_of entry_of rows_of kind_in access_in
each_row i k a m = go (rows_of i) (here i (let low = low_row i k a m in omega arith)) (among rows i k a m)
  where
    by : {a : ℕ} → Access a → (eqb (a % 2) 1 ≡ (eqb a R || eqb a RW)) × (eqb (a / 2) 1 ≡ (eqb a W || eqb a RW))
    by read = (refl, refl)
    by written = (refl, refl)
    by both = (refl, refl)

    go : (l : List Row) → Stands i (get_or table i 0) l → Memᴰ (row i k a) l →
        (kind_from (packed l % 8) ≡ k) × (eqb (packed l / 8 % 2) 1 ≡ (eqb a R || eqb a RW)) × (eqb (packed l / 16 % 2) 1 ≡ (eqb a W || eqb a RW))
    go _ (none e) h = absurd (Memᴰ.not-nil h)
    go _ (one j n b p) h =
        let e = Memᴰ.eq_of_singleton h in
        let same_kind : n ≡ k = sym (ap kind_in e) in
        let same_access : b ≡ a = sym (ap access_in e) in
        let bits = by (access_of b p.least p.most) in (
          kind_back n b ∙ same_kind,
          ap (λ (x : ℕ). eqb x 1) (low_bit n b) ∙ bits.0 ∙ ap (λ (x : ℕ). eqb x R || eqb x RW) same_access,
          ap (λ (x : ℕ). eqb x 1) (high_bit n b p.most) ∙ bits.1 ∙ ap (λ (x : ℕ). eqb x W || eqb x RW) same_access,
        )
