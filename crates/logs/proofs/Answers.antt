-- What is answered: 9 for a line that there is not, and of one that there is the report over a log's readings, or 19 for bytes that are no log.
-- Assumes nothing.
use Prim.Native.Nat.{ℕ, ◌≤◌}
use mathlib.Core.Path.{◌≡◌, refl, sym, ap, ◌∙◌}
use mathlib.Core.Bool.{Bool, true, false, ◌&&◌, and-eq-true_iff}
use mathlib.Core.List.{List, []}
use Rattle.std.specs.Prelude.{Option, None, Some, Ok, Err, unwrap_or}
use borrow.Author.Tests.{leb-true, le-leb}
use lib.Dec.{leb}
use Rattle.places.specs.Bytes.{Bytes}
use Rattle.logs.specs.Layout.{Reading, log_of}
use Rattle.logs.specs.Report.{only, report_of, answer_by, answer_of}
use Rattle.logs.specs.Written.{Log}
use Rattle.refusals.specs.declared.Refusal.{Refusal}
use Rattle.refusals.specs.declared.Refusal.TheVariants.{NoSuchLine, BrokenLog}
use Rattle.refusals.specs.Numbers.{number_of}
use Rattle.logs.proofs.Written.{good, read}

-- a log is of one list of readings
pub one_log : {s : List ℕ} {rs ts : List Reading} → Log s rs → Log s ts → rs ≡ ts
one_log {rs} {ts} g h = ap (λ (o : Option (List Reading)). unwrap_or o []) (sym (good g) ∙ good h)

module _ (s : List ℕ) (line id : ℕ) where
  pub nine : ((1 ≤ line) × (line ≤ 4) → ⊥) → (r : Refusal) × (answer_of s line id ≡ Err r) × (number_of r ≡ 9)
  unfolding answer_of
  nine other = (NoSuchLine, rw (off (leb 1 line && leb line 4) refl), refl)
    where
      off : (b : Bool) → (leb 1 line && leb line 4) ≡ b → (leb 1 line && leb line 4) ≡ false
      off true e = let p = (and-eq-true_iff (leb 1 line) (leb line 4)).0 e in absurd (other (leb-true 1 line p.0, leb-true line 4 p.1))
      off false e = e

  on_line : 1 ≤ line → line ≤ 4 → answer_of s line id ≡ answer_by line id (log_of s)
  unfolding answer_of
  on_line from upto = rw (le-leb 1 line from, le-leb line 4 upto)

  pub nineteen : Bytes s → 1 ≤ line → line ≤ 4 → ((rs : List Reading) → Log s rs → ⊥) →
      (r : Refusal) × (answer_of s line id ≡ Err r) × (number_of r ≡ 19)
  nineteen b from upto other = (BrokenLog, on_line from upto ∙ go (log_of s) refl, refl)
    where
      go : (o : Option (List Reading)) → log_of s ≡ o → answer_by line id (log_of s) ≡ Err BrokenLog
      go None e = ap (answer_by line id) e
      go (Some rs) e = absurd (other rs (read s rs b e))

pub reported : {s : List ℕ} {rs : List Reading} (line id : ℕ) → 1 ≤ line → line ≤ 4 → Log s rs →
    answer_of s line id ≡ Ok (report_of id (only line id rs))
reported {s} line id from upto g = on_line s line id from upto ∙ ap (answer_by line id) (good g)
