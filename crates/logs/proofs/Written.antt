-- What is written is read, and what is read was written so: the reader takes a log for its readings, and nothing else.
-- Assumes nothing.
use Prim.Native.Nat.{ℕ, ◌+◌, ◌*◌, zero-le}
use mathlib.Core.Path.{◌≡◌, refl, sym, ap, ap₂, ◌∙◌, subst}
use mathlib.Core.Bool.{Bool, true, false, cond, ◌&&◌, and-eq-true_iff}
use mathlib.Core.List.{List, [], ◌∷◌, ◌++◌}
use Rattle.std.specs.Prelude.{Option, None, Some, unwrap_or, is_none}
use Rattle.std.proofs.Common.{T}
use native.Mathlib.Omega.{arith}
use borrow.Author.Tests.{eqb-true, eq-eqb}
use lib.ListN.{length, get_or, drop, length-append, length-drop, take-append-drop}
use lib.Seq.{take-append_seam, drop-append-add, drop-drop, length-take-le, drop-cons}
use Rattle.places.specs.Bytes.{Bytes, pair_at, pair}
use Rattle.places.proofs.Place.{pair_back}
use Rattle.logs.specs.Layout.{Reading, readings_at, lines_of, count_place, count_of, readings_place, readings_of, all_bytes, whole, rising, in_order, log_of}
use Rattle.logs.specs.Written.{bytes_of, log_bytes, Log}
use Rattle.logs.proofs.Numbers.{rises, between, above}
use Rattle.logs.proofs.Ordered.{ordered, ticks, all_listed}
use Rattle.logs.proofs.Readings.{readings_back, length_readings, two_again, readings_again}

-- the three tests, as facts
record Passes (s : List ℕ) : Type 0 where
  whole : length s ≡ all_bytes s
  rises : rising 0 (lines_of s) ≡ true
  ordered : in_order (lines_of s) 0 (readings_of s) ≡ true

passes : (s : List ℕ) → Passes s → log_of s ≡ Some (readings_of s)
unfolding log_of
passes s p = rw (eq-eqb (length s) (all_bytes s) p.whole, p.rises, p.ordered)

taken : {A : Type 0} (b : Bool) (x y : A) → cond b (Some x) None ≡ Some y → (b ≡ true) × (x ≡ y)
taken {A} true x y e = (refl, ap (λ (o : Option A). unwrap_or o x) e)
taken {A} false x y e = absurd (subst (λ (o : Option A). T (is_none o)) e tt)

passed : (s : List ℕ) (rs : List Reading) → log_of s ≡ Some rs → Passes s × (readings_of s ≡ rs)
unfolding log_of
passed s rs e =
    let rise = rising 0 (lines_of s) in
    let order = in_order (lines_of s) 0 (readings_of s) in
    let t = taken (whole s && (rise && order)) (readings_of s) rs e in
    let p = (and-eq-true_iff (whole s) (rise && order)).0 t.0 in
    let q = (and-eq-true_iff rise order).0 p.1 in
    (record { whole = eqb-true (length s) (all_bytes s) p.0; rises = q.0; ordered = q.1 }, t.1)

length_bytes : (rs : List Reading) → length (bytes_of rs) ≡ 8 * length rs
unfolding bytes_of
length_bytes [] = refl
length_bytes (r ∷ rs) = omega (arith, length_bytes rs)

-- the parts of what is written, as they are read
module _ (lines : List ℕ) (rs : List Reading) where
  abbrev s : List ℕ
  s = log_bytes lines rs

  lines_back : lines_of s ≡ lines
  unfolding log_bytes
  lines_back = take-append_seam lines (pair (length rs) (bytes_of rs))

  count_back : count_of s ≡ length rs
  unfolding log_bytes
  count_back =
      let place : length lines + 1 ≡ length (length lines ∷ lines) = omega arith in
      ap (pair_at s) place ∙ pair_back (length lines ∷ lines) (bytes_of rs) (length rs)

  rest_back : drop (readings_place s) s ≡ bytes_of rs
  unfolding log_bytes
  rest_back =
      let place : length lines + 1 + 2 ≡ length (length lines ∷ lines) + 2 = omega arith in
      ap (λ (k : ℕ). drop k s) place ∙ drop-append-add (length lines ∷ lines) (pair (length rs) (bytes_of rs)) 2

  all_back : readings_of s ≡ rs
  all_back = ap (readings_at s (readings_place s)) count_back ∙ readings_back s (readings_place s) rs rest_back

  length_back : length s ≡ all_bytes s
  unfolding log_bytes
  length_back = omega (arith, length-append lines (pair (length rs) (bytes_of rs)), length_bytes rs, count_back)

-- what is written is read
pub good : {s : List ℕ} {rs : List Reading} → Log s rs → log_of s ≡ Some rs
good {s} {rs} g =
    let lines = g.lines in
    let p : Passes (log_bytes lines rs) = record {
      whole = length_back lines rs;
      rises = rw (lines_back lines rs) (rises 0 lines g.numbers g.above);
      ordered = rw (lines_back lines rs, all_back lines rs) (ordered lines 0 rs (λ i h. zero-le) g.ticks g.listed);
    } in
    ap log_of g.written ∙ passes (log_bytes lines rs) p ∙ ap {B = Option (List Reading)} Some (all_back lines rs)

-- bytes that pass are those of what is read in them
module _ (s : List ℕ) (b : Bytes s) (p : Passes s) where
  abbrev n : ℕ
  n = get_or s 0 0

  count_again : length (lines_of s) ≡ n
  count_again = length-take-le n (drop 1 s) (omega (arith, p.whole, length-drop 1 s))

  rest_again : drop n (drop 1 s) ≡ pair (length (readings_of s)) (bytes_of (readings_of s))
  rest_again =
      let place : 1 + n ≡ count_place s = omega arith in
      drop-drop n 1 s
      ∙ ap (λ (k : ℕ). drop k s) place
      ∙ two_again s b (count_place s) (readings_place s) refl (omega (arith, p.whole))
      ∙ ap₂ (λ (v : ℕ) (l : List ℕ). pair v l) (sym (length_readings s (readings_place s) (count_of s)))
      (readings_again s b (readings_place s) (count_of s) p.whole)

  again : s ≡ log_bytes (lines_of s) (readings_of s)
  unfolding log_bytes
  again =
      drop-cons s 0 0 (omega (arith, p.whole))
      ∙ ap₂ (λ (x : ℕ) (l : List ℕ). x ∷ l) (sym count_again)
      (sym (take-append-drop n (drop 1 s)) ∙ ap (λ (l : List ℕ). lines_of s ++ l) rest_again)

  log : Log s (readings_of s)
  log = record {
    lines = lines_of s;
    written = again;
    numbers = between 0 (lines_of s) p.rises;
    above = above 0 (lines_of s) p.rises;
    ticks = ticks (lines_of s) 0 (readings_of s) p.ordered;
    listed = all_listed (lines_of s) 0 (readings_of s) p.ordered;
  }

-- what is read was written so
pub read : (s : List ℕ) (rs : List Reading) → Bytes s → log_of s ≡ Some rs → Log s rs
read s rs b e = let t = passed s rs e in subst (λ (l : List Reading). Log s l) t.1 (log s b t.0)
