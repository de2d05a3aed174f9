-- The test of the line numbers passes those that are 1 to 4 and each above the last, and no others; the test of one line finds its place among them.
-- Assumes nothing.
use Prim.Native.Nat.{ℕ, zero, suc, ◌≤◌, ◌<◌, suc-le-suc}
use mathlib.Core.Path.{◌≡◌, refl}
use mathlib.Core.Bool.{Bool, true, false, ◌&&◌, ◌||◌, false≢true, and-eq-true_iff}
use mathlib.Core.List.{List, [], ◌∷◌}
use native.Mathlib.Nat.{le_of_suc-le-suc, not-suc-le-zero, zero-lt-suc}
use native.Mathlib.Omega.{arith}
use borrow.Author.Tests.{ltb-true, lt-ltb, leb-true, le-leb, eqb-true, eq-eqb}
use lib.Dec.{ltb, leb, eqb}
use lib.ListN.{length, get_or}
use Rattle.logs.specs.Layout.{rising, among}

-- each above a number before the first, and at most 4
abbrev pub Between : ℕ → List ℕ → Type 0
Between last l = (i : ℕ) → i < length l → (last < get_or l i 0) × (get_or l i 0 ≤ 4)

abbrev pub Above : List ℕ → Type 0
Above l = (i j : ℕ) → i < j → j < length l → get_or l i 0 < get_or l j 0

-- one of them is n
abbrev pub Listed : List ℕ → ℕ → Type 0
Listed l n = (j : ℕ) × (j < length l) × (get_or l j 0 ≡ n)

pub rises : (last : ℕ) (l : List ℕ) → Between last l → Above l → rising last l ≡ true
unfolding rising
rises last [] b a = refl
rises last (n ∷ l) b a =
    let first = b 0 (zero-lt-suc (length l)) in
    let rest : Between n l = λ i h. (a 0 (suc i) (zero-lt-suc i) (suc-le-suc h), (b (suc i) (suc-le-suc h)).1) in
    rw (lt-ltb last n first.0, le-leb n 4 first.1) (rises n l rest (λ i j h k. a (suc i) (suc j) (suc-le-suc h) (suc-le-suc k)))

record Parts (last n : ℕ) (l : List ℕ) : Type 0 where
  over : last < n
  under : n ≤ 4
  rest : rising n l ≡ true

parts : (last n : ℕ) (l : List ℕ) → rising last (n ∷ l) ≡ true → Parts last n l
unfolding rising
parts last n l e =
    let p = (and-eq-true_iff (ltb last n) (leb n 4 && rising n l)).0 e in
    let q = (and-eq-true_iff (leb n 4) (rising n l)).0 p.1 in
    record { over = ltb-true last n p.0; under = leb-true n 4 q.0; rest = q.1 }

pub between : (last : ℕ) (l : List ℕ) → rising last l ≡ true → Between last l
between last [] e i h = absurd (not-suc-le-zero h)
between last (n ∷ l) e zero h = let p = parts last n l e in (p.over, p.under)
between last (n ∷ l) e (suc i) h =
    let p = parts last n l e in
    let b = between n l p.rest i (le_of_suc-le-suc h) in
    (omega (arith, p.over, b.0), b.1)

pub above : (last : ℕ) (l : List ℕ) → rising last l ≡ true → Above l
above last [] e i j h k = absurd (not-suc-le-zero k)
above last (n ∷ l) e i zero h k = absurd (not-suc-le-zero h)
above last (n ∷ l) e zero (suc j) h k = (between n l (parts last n l e).rest j (le_of_suc-le-suc k)).0
above last (n ∷ l) e (suc i) (suc j) h k = above n l (parts last n l e).rest i j (le_of_suc-le-suc h) (le_of_suc-le-suc k)

pub is_among : (l : List ℕ) (n : ℕ) → Listed l n → among l n ≡ true
unfolding among
is_among [] n t = absurd (not-suc-le-zero t.1)
is_among (m ∷ l) n t = go t.0 t.1 t.2 (is_among l n)
  where
    or : (b : Bool) → among l n ≡ true → (b || among l n) ≡ true
    or true e = refl
    or false e = e

    go : (j : ℕ) → j < suc (length l) → get_or (m ∷ l) j 0 ≡ n → (Listed l n → among l n ≡ true) → (eqb m n || among l n) ≡ true
    go zero h e r = rw (eq-eqb m n e)
    go (suc j) h e r = or (eqb m n) (r (j, le_of_suc-le-suc h, e))

pub among_is : (l : List ℕ) (n : ℕ) → among l n ≡ true → Listed l n
unfolding among
among_is [] n e = absurd (false≢true e)
among_is (m ∷ l) n e = go (eqb m n) refl e (among_is l n)
  where
    go : (b : Bool) → eqb m n ≡ b → (b || among l n) ≡ true → (among l n ≡ true → Listed l n) → Listed (m ∷ l) n
    go true f g r = (0, zero-lt-suc (length l), eqb-true m n f)
    go false f g r = let t = r g in (suc t.0, suc-le-suc t.1, t.2)
