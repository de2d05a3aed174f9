-- The packed table, against the rows of section 5.3. One test over its 256 numbers, carried to each id: where the id has no row the
-- number is 0; where it has one, and no id has two, the id is below 128 and the number is the row's kind's, with the row's access, at least one of the two. What 01 says of the table are parts of it.
-- Assumes nothing.
use mathlib.Core.Path.{◌≡◌, refl, sym, ap, ◌∙◌, subst}
use mathlib.Core.List.{List, [], ◌∷◌}
use mathlib.Core.Bool.{Bool, true, false, ◌||◌}
use Prim.Native.Nat.{ℕ, zero, suc, ◌+◌, ◌*◌, ◌/◌, ◌%◌, ◌≤◌, ◌<◌}
use native.Mathlib.Omega.{arith}
use lib.Dec.{T, eqb, ltb, leb, eqb→eq}
use lib.ListN.{get_or}
use borrow.Author.Tests.{eqb-true, leb-true, ltb-true}
use Rattle.std.proofs.Common.{lit<}
use Rattle.ids.specs.declared.Kind.{Kind}
use Rattle.ids.specs.declared.Kind.TheVariants.{Raw, Real, S16, U16, Pair, SPair}
use Rattle.ids.specs.Ids.{number_of, kind_from, Row, row, raw, rows, rows_in, rows_of, some, packed, listed, entry_of, kind_of, readable_of, writable_of}
use Rattle.word.proofs.Table.{joined, at}
unfoldable pub use Rattle.ids.proofs.Numbers.{table}

-- whether the number x may stand for the id k, whose rows are l
stands : ℕ → ℕ → List Row → Bool
stands k x [] = eqb x 0
stands k x (row i kind a ∷ []) =
    joined (ltb k 128) (joined (eqb (x % 8) (number_of kind)) (joined (eqb (x / 8) a) (joined (leb 1 a) (leb a 3))))
stands k x (q ∷ r ∷ l) = false

fits : ℕ → ℕ → Bool
fits k x = stands k x (rows_of k)

fit : (id : ℕ) → id < 256 → T (fits id (get_or table id 0))
unfolding table fits stands rows_of rows rows_in
fit id h = at fits table tt id h

-- the same in numbers
pub record Packs (k x : ℕ) (kind : Kind) (a : ℕ) : Type 0 where
  pub low : k < 128
  pub kind_is : x % 8 ≡ number_of kind
  pub access : x / 8 ≡ a
  pub least : 1 ≤ a
  pub most : a ≤ 3

pub data Stands (k x : ℕ) : List Row → Type 0 where
  none : x ≡ 0 → Stands k x []
  one : (i : ℕ) (kind : Kind) (a : ℕ) → Packs k x kind a → Stands k x (row i kind a ∷ [])

is_true : (a : Bool) → T a → a ≡ true
is_true true t = refl
is_true false t = absurd t

pub parts : (a b : Bool) → T (joined a b) → (a ≡ true) × T b
parts true b t = (refl, t)
parts false b t = absurd t

stand : (k x : ℕ) (l : List Row) → T (stands k x l) → Stands k x l
unfolding stands
stand k x [] t = none (eqb→eq x 0 t)
stand k x (row i kind a ∷ []) t =
    let p = parts (ltb k 128) _ t in
    let q = parts (eqb (x % 8) (number_of kind)) _ p.1 in
    let s = parts (eqb (x / 8) a) _ q.1 in
    let u = parts (leb 1 a) (leb a 3) s.1 in
    one i kind a
    (record {
      low = ltb-true k 128 p.0;
      kind_is = eqb-true (x % 8) (number_of kind) q.0;
      access = eqb-true (x / 8) a s.0;
      least = leb-true 1 a u.0;
      most = leb-true a 3 (is_true (leb a 3) u.1);
    })
stand k x (q ∷ r ∷ l) t = absurd t

-- a kind's number has three bits, and is of that kind alone
pub number_low : (kind : Kind) → number_of kind < 8
number_low Raw = lit< tt
number_low Real = lit< tt
number_low S16 = lit< tt
number_low U16 = lit< tt
number_low Pair = lit< tt
number_low SPair = lit< tt

pub number_back : (kind : Kind) → kind_from (number_of kind) ≡ kind
number_back Raw = refl
number_back Real = refl
number_back S16 = refl
number_back U16 = refl
number_back Pair = refl
number_back SPair = refl

-- the kind of a packed number
pub kind_back : (kind : Kind) (a : ℕ) → kind_from ((number_of kind + 8 * a) % 8) ≡ kind
kind_back kind a =
    let low : (number_of kind + 8 * a) % 8 ≡ number_of kind = omega (arith, number_low kind) in
    ap kind_from low ∙ number_back kind

-- what the access says of a packed number: 1 is read, 2 written, 3 both
pub low_bit : (kind : Kind) (a : ℕ) → (number_of kind + 8 * a) / 8 % 2 ≡ a % 2
low_bit kind a = omega (arith, number_low kind)

pub high_bit : (kind : Kind) (a : ℕ) → a ≤ 3 → (number_of kind + 8 * a) / 16 % 2 ≡ a / 2
high_bit kind a m = omega (arith, number_low kind)

pub data Access : ℕ → Type 0 where
  read : Access 1
  written : Access 2
  both : Access 3

pub access_of : (a : ℕ) → 1 ≤ a → a ≤ 3 → Access a
access_of zero l m = absurd (omega arith)
access_of (suc zero) l m = read
access_of (suc (suc zero)) l m = written
access_of (suc (suc (suc zero))) l m = both
access_of (suc (suc (suc (suc a)))) l m = absurd (omega arith)

module _ (id : ℕ) (h : id < 256) where
  pub here : Stands id (get_or table id 0) (rows_of id)
  unfolding fits
  here = stand id (get_or table id 0) (rows_of id) (fit id h)

  -- the number is that of the id's row
  pub is_entry : get_or table id 0 ≡ entry_of id
  unfolding entry_of
  is_entry = go (rows_of id) here
    where
      go : (l : List Row) → Stands id (get_or table id 0) l → get_or table id 0 ≡ packed l
      go _ (none e) = e
      go _ (one i kind a p) = omega (arith, p.kind_is, p.access)

  -- the number of the id's kind is the one that its row packs
  pub number_kept : number_of (kind_of id) ≡ entry_of id % 8
  unfolding entry_of kind_of
  number_kept = go (rows_of id) here
    where
      go : (l : List Row) → Stands id (get_or table id 0) l → number_of (kind_from (packed l % 8)) ≡ packed l % 8
      go _ (none e) = refl
      go _ (one i kind a p) =
          let same = ap number_of (kind_back kind a) in
          omega (arith, same, number_low kind)

  -- "every listed id is at least one of the two", and an id not listed is neither
  pub rule : listed id ≡ (readable_of id || writable_of id)
  unfolding listed entry_of readable_of writable_of
  rule = go (rows_of id) here
    where
      by : {a : ℕ} → Access a → true ≡ (eqb (a % 2) 1 || eqb (a / 2) 1)
      by read = refl
      by written = refl
      by both = refl

      go : (l : List Row) → Stands id (get_or table id 0) l → some l ≡ (eqb (packed l / 8 % 2) 1 || eqb (packed l / 16 % 2) 1)
      go _ (none e) = refl
      go _ (one i kind a p) =
          rw (low_bit kind a, high_bit kind a p.most) (by (access_of a p.least p.most))

  -- "Ids 128 to 255 are unlisted."
  pub unlisted : 128 ≤ id → listed id ≡ false
  unfolding listed
  unlisted k = go (rows_of id) here
    where
      go : (l : List Row) → Stands id (get_or table id 0) l → some l ≡ false
      go _ (none e) = refl
      go _ (one i kind a p) = absurd (omega (arith, p.low))

  -- "An id not listed is raw and neither readable nor writable"
  pub unlisted_raw : listed id ≡ false → (kind_of id ≡ raw) × (readable_of id ≡ false) × (writable_of id ≡ false)
  unfolding listed entry_of kind_of readable_of writable_of
  unlisted_raw u =
      let e : packed (rows_of id) ≡ 0 = sym is_entry ∙ go (rows_of id) here u in
      (ap (λ (x : ℕ). kind_from (x % 8)) e, ap (λ (x : ℕ). eqb (x / 8 % 2) 1) e, ap (λ (x : ℕ). eqb (x / 16 % 2) 1) e)
    where
      go : (l : List Row) → Stands id (get_or table id 0) l → some l ≡ false → get_or table id 0 ≡ 0
      go _ (none e) f = e
      go _ (one i kind a p) f = absurd (subst T f tt)
