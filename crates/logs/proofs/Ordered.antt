-- The test of the readings passes those whose ticks never fall and whose lines are listed, and no others.
-- Assumes nothing.
use Prim.Native.Nat.{ℕ, zero, suc, ◌≤◌, ◌<◌, zero-le, suc-le-suc}
use mathlib.Core.Path.{◌≡◌, refl}
use mathlib.Core.Bool.{true, ◌&&◌, and-eq-true_iff}
use mathlib.Core.List.{List, [], ◌∷◌}
use native.Mathlib.Nat.{le_of_suc-le-suc, not-suc-le-zero, zero-lt-suc, le_refl, le_trans}
use borrow.Author.Tests.{leb-true, le-leb}
use lib.Dec.{leb}
use lib.ListN.{length}
use Rattle.logs.specs.Layout.{Reading, among, in_order}
use Rattle.logs.specs.Written.{at}
use Rattle.logs.proofs.Numbers.{Listed, is_among, among_is}

-- none before a tick
abbrev pub Since : ℕ → List Reading → Type 0
Since last rs = (i : ℕ) → i < length rs → last ≤ (at rs i).tick

abbrev pub Ticks : List Reading → Type 0
Ticks rs = (i j : ℕ) → i ≤ j → j < length rs → (at rs i).tick ≤ (at rs j).tick

-- each of a line among these
abbrev pub AllListed : List ℕ → List Reading → Type 0
AllListed lines rs = (i : ℕ) → i < length rs → Listed lines (at rs i).line

module _ (lines : List ℕ) where
  pub ordered : (last : ℕ) (rs : List Reading) → Since last rs → Ticks rs → AllListed lines rs → in_order lines last rs ≡ true
  unfolding in_order
  ordered last [] s t l = refl
  ordered last (r ∷ rs) s t l =
      let first = zero-lt-suc (length rs) in
      let rest : Ticks rs = λ i j h k. t (suc i) (suc j) (suc-le-suc h) (suc-le-suc k) in
      rw (le-leb last r.tick (s 0 first), is_among lines r.line (l 0 first))
      (ordered r.tick rs (λ i h. t 0 (suc i) zero-le (suc-le-suc h)) rest (λ i h. l (suc i) (suc-le-suc h)))

  record Parts (last : ℕ) (r : Reading) (rs : List Reading) : Type 0 where
    since : last ≤ r.tick
    listed : Listed lines r.line
    rest : in_order lines r.tick rs ≡ true

  parts : (last : ℕ) (r : Reading) (rs : List Reading) → in_order lines last (r ∷ rs) ≡ true → Parts last r rs
  unfolding in_order
  parts last r rs e =
      let p = (and-eq-true_iff (leb last r.tick) (among lines r.line && in_order lines r.tick rs)).0 e in
      let q = (and-eq-true_iff (among lines r.line) (in_order lines r.tick rs)).0 p.1 in
      record { since = leb-true last r.tick p.0; listed = among_is lines r.line q.0; rest = q.1 }

  since : (last : ℕ) (rs : List Reading) → in_order lines last rs ≡ true → Since last rs
  since last [] e i h = absurd (not-suc-le-zero h)
  since last (r ∷ rs) e zero h = (parts last r rs e).since
  since last (r ∷ rs) e (suc i) h = let p = parts last r rs e in le_trans p.since (since r.tick rs p.rest i (le_of_suc-le-suc h))

  pub ticks : (last : ℕ) (rs : List Reading) → in_order lines last rs ≡ true → Ticks rs
  ticks last [] e i j h k = absurd (not-suc-le-zero k)
  ticks last (r ∷ rs) e zero zero h k = le_refl r.tick
  ticks last (r ∷ rs) e zero (suc j) h k = since r.tick rs (parts last r rs e).rest j (le_of_suc-le-suc k)
  ticks last (r ∷ rs) e (suc i) zero h k = absurd (not-suc-le-zero h)
  ticks last (r ∷ rs) e (suc i) (suc j) h k = ticks r.tick rs (parts last r rs e).rest i j (le_of_suc-le-suc h) (le_of_suc-le-suc k)

  pub all_listed : (last : ℕ) (rs : List Reading) → in_order lines last rs ≡ true → AllListed lines rs
  all_listed last [] e i h = absurd (not-suc-le-zero h)
  all_listed last (r ∷ rs) e zero h = (parts last r rs e).listed
  all_listed last (r ∷ rs) e (suc i) h = all_listed r.tick rs (parts last r rs e).rest i (le_of_suc-le-suc h)
