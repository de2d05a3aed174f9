-- Laws of a page of lines: where a line goes, and that of many lines none is lost.
-- Assumes nothing.
use mathlib.Core.Path.{◌≡◌, refl, sym, ap, ◌∙◌}
use mathlib.Core.Bool.{Bool, true, false}
use mathlib.Core.List.{List, [], ◌∷◌, ◌++◌, append-nil, append_assoc}
use Prim.Native.Nat.{ℕ, ◌+◌, ◌-◌, ◌≤◌, ◌<◌}
use native.Mathlib.Omega.{arith}
use borrow.Author.Tests.{lt-ltb, le-ltb, ltb-false}
use lib.Dec.{ltb}
use native.Mathlib.Numerals.{add-one}
use lib.ListN.{length, take, drop, get_or, length-append}
use borrow.Rule.Slice.PartMut.{put_mid}
use Rattle.std.proofs.lemmas.Slice.{put_mid-paste}
use lib.Seq.{take_all, take_at, length-take-le, drop-cons}
use Rattle.text.specs.declared.Text.{Text}
use Rattle.text.specs.Text.{empty_text, puts, says}
use Rattle.print.specs.Page.{Page, page, collected, put, added, leaves, all_added, all_leave, in_a_row}

module _ (bytes : List ℕ) (used : ℕ) (l : List ℕ) where
  -- no page has room
  pub nowhere : length bytes < length l → added (page bytes used) l ≡ page bytes 0
  unfolding added
  nowhere h = rw (lt-ltb (length bytes) (length l) h)

  -- this page has none any more
  pub in_front : length l ≤ length bytes → length bytes - length l < used → added (page bytes used) l ≡ put bytes 0 l
  unfolding added
  in_front h g = rw (le-ltb (length bytes) (length l) h, lt-ltb (length bytes - length l) used g)

  -- it has
  pub behind : length l ≤ length bytes → used ≤ length bytes - length l → added (page bytes used) l ≡ put bytes used l
  unfolding added
  behind h g = rw (le-ltb (length bytes) (length l) h, le-ltb (length bytes - length l) used g)

-- what `add` leaves: the line is copied to where the page q has its next one, into k bytes there
module _ (d : List ℕ) (used : ℕ) (l : List ℕ) (room : length l ≤ length d) (q : Page) (s : List ℕ) (same : s ≡ l) (k : ℕ) (long : length l ≡ k) where
  abbrev Copied : Type 0
  Copied = page (put_mid q.used k q.bytes s) (q.used + length l) ≡ added (page d used) l

  copied : added (page d used) l ≡ put q.bytes q.used l → Copied
  copied h =
      ap (λ (x : List ℕ). page x (q.used + length l))
      (put_mid-paste q.used k q.bytes s l (length l) same long refl
      ∙ ap (λ (x : List ℕ). take q.used q.bytes ++ x ++ drop (q.used + length l) q.bytes) (take_all (length l) l (omega arith)))
      ∙ sym h

  pub first : length d - length l < used → q ≡ page d 0 → Copied
  first g eq = copied (in_front d used l room g ∙ ap (λ (x : Page). put x.bytes x.used l) (sym eq))

  pub next : used ≤ length d - length l → q ≡ page d used → Copied
  next g eq = copied (behind d used l room g ∙ ap (λ (x : Page). put x.bytes x.used l) (sym eq))

-- a line that is added to a page: what is written and what the page holds then are what it held, and the line; and what is used is there
module _ (d : List ℕ) (used : ℕ) (l : List ℕ) (u : used ≤ length d) where
  held : (at : ℕ) → at ≤ length d → collected (put d at l) ≡ take at d ++ l
  held at h =
      take_at (take at d ++ l) (drop (at + length l) d) (at + length l)
      (length-append (take at d) l ∙ ap (λ (n : ℕ). n + length l) (length-take-le at d h))

  fits : (at : ℕ) → at + length l ≤ length d → (put d at l).used ≤ length (put d at l).bytes
  fits at h =
      let front = length-append (take at d) l in
      let lead = length-take-le at d (omega arith) in
      rw length-append (omega arith)

  abbrev Kept : Type 0
  Kept =
      (leaves (page d used) l ++ collected (added (page d used) l) ≡ take used d ++ l)
      × ((added (page d used) l).used ≤ length (added (page d used) l).bytes)

  kept : Kept
  unfolding leaves added
  kept = by (ltb (length d) (length l)) (ltb (length d - length l) used) refl refl
    where
      by : (a b : Bool) → ltb (length d) (length l) ≡ a → ltb (length d - length l) used ≡ b → Kept
      by true b ea eb = rw ea (append-nil (take used d ++ l), omega arith)
      by false true ea eb =
          let room = ltb-false (length d) (length l) ea in
          let lead : take used d ++ collected (put d 0 l) ≡ take used d ++ l = ap (λ (x : List ℕ). take used d ++ x) (held 0 (omega arith)) in
          rw (ea, eb) (lead, fits 0 (omega arith))
      by false false ea eb =
          let room = ltb-false (length d) (length l) ea in
          let more = ltb-false (length d - length l) used eb in
          rw (ea, eb) (held used u, fits used (omega arith))

-- of many lines none is lost, none comes twice and none comes before an earlier one
pub none_lost : (p : Page) (ls : List (List ℕ)) → p.used ≤ length p.bytes →
    all_leave p ls ++ collected (all_added p ls) ≡ collected p ++ in_a_row ls
unfolding all_leave all_added in_a_row
none_lost p [] u = sym (append-nil (collected p))
none_lost p (l ∷ ls) u =
    let k = kept p.bytes p.used l u in
    append_assoc (leaves p l) (all_leave (added p l) ls) (collected (all_added (added p l) ls))
    ∙ ap (λ (x : List ℕ). leaves p l ++ x) (none_lost (added p l) ls k.1)
    ∙ sym (append_assoc (leaves p l) (collected (added p l)) (in_a_row ls))
    ∙ ap (λ (x : List ℕ). x ++ in_a_row ls) k.0
    ∙ append_assoc (collected p) l (in_a_row ls)

-- lines in two parts
pub all_append : (p : Page) (a b : List (List ℕ)) → all_added p (a ++ b) ≡ all_added (all_added p a) b
unfolding all_added
all_append p [] b = refl
all_append p (l ∷ a) b = all_append (added p l) a b

pub then : (p q r : Page) (a b : List (List ℕ)) → q ≡ all_added p a → r ≡ all_added q b → r ≡ all_added p (a ++ b)
then p q r a b eq er = er ∙ ap (λ (x : Page). all_added x b) eq ∙ sym (all_append p a b)

-- one line, as `add` leaves it: what its text says, and no more is asked of the text
pub one_line : (p q : Page) (t : Text) (l : List ℕ) → q ≡ added p (says t) → says t ≡ says (puts empty_text l) → q ≡ all_added p (says (puts empty_text l) ∷ [])
unfolding all_added
one_line p q t l eq et = eq ∙ ap (added p) et

-- the same where the text is the line itself, with the bytes behind it
pub one_put : (p q : Page) (t : Text) (l : List ℕ) → q ≡ added p (says t) → t ≡ puts empty_text l → q ≡ all_added p (says (puts empty_text l) ∷ [])
one_put p q t l eq et = one_line p q t l eq (ap says et)

-- a block byte by byte: what is left of it from a place on
pub left_from : (s : List ℕ) (i : ℕ) → i < length s → drop i s ≡ get_or s i 0 ∷ drop (i + 1) s
left_from s i h = drop-cons s i 0 h ∙ ap (λ (k : ℕ). get_or s i 0 ∷ drop k s) (sym (add-one i))
