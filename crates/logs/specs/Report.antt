-- The report on one line and id (02, 'How long has it stood still?'), over the readings of a log.
-- Assumes nothing: these are definitions.
use Rattle.std.specs.Prelude.{ℕ, ◌+◌, ◌-◌, Bool, true, false, cond, ◌&&◌, Option, Some, None, Result, Ok, Err, List, [], ◌∷◌, map, leb, ltb, eqb, ℤ, pos, ◌+ℤ◌, length}
use Rattle.std.specs.Int.Signed.{le_z}
use Rattle.ids.specs.declared.Kind.{Kind}
use Rattle.ids.specs.declared.Kind.TheVariants.{Real, S16, U16, Pair, SPair, Raw}
use Rattle.ids.specs.Ids.{kind_of}
use Rattle.ids.specs.Signed.{signed16}
use Rattle.logs.specs.Layout.{Reading, log_of}
use Rattle.logs.specs.declared.Report.{Report}
use Rattle.refusals.specs.declared.Refusal.{Refusal}
use Rattle.refusals.specs.declared.Refusal.TheVariants.{NoSuchLine, BrokenLog}

-- the readings of one line and id, in their order; what stands between them is left out
unfoldable pub only : ℕ → ℕ → List Reading → List Reading
only line id [] = []
only line id (r ∷ rs) = cond (eqb r.line line && eqb r.id id) (r ∷ only line id rs) (only line id rs)

-- "Values count as signed for the real and s16 kinds, otherwise unsigned."
abbrev pub signed_kind : Kind → Bool
signed_kind Real = true
signed_kind S16 = true
signed_kind U16 = false
signed_kind Pair = false
signed_kind SPair = false
signed_kind Raw = false

unfoldable pub counts_signed : ℕ → Bool
counts_signed id = signed_kind (kind_of id)

abbrev pub value_as : Bool → ℕ → ℤ
value_as signed raw = cond signed (signed16 raw) (pos raw)

abbrev pub values_of : ℕ → List Reading → List ℤ
values_of id rs = map (λ (r : Reading). value_as (counts_signed id) r.value) rs

-- the one that comes before all others by a test of order, the least by `le_z`; with none it is 0
unfoldable pub first_from : (ℤ → ℤ → Bool) → ℤ → List ℤ → ℤ
first_from before z [] = z
first_from before z (y ∷ zs) = first_from before (cond (before z y) z y) zs

unfoldable pub first_by : (ℤ → ℤ → Bool) → List ℤ → ℤ
first_by before [] = pos 0
first_by before (z ∷ zs) = first_from before z zs

-- "lowest, highest, sum"
abbrev pub lowest : List ℤ → ℤ
lowest zs = first_by le_z zs

abbrev pub highest : List ℤ → ℤ
highest zs = first_by (λ (x y : ℤ). le_z y x) zs

unfoldable pub total : List ℤ → ℤ
total [] = pos 0
total (z ∷ zs) = z +ℤ total zs

-- "the run of equal neighbours": the value of its readings, how many they are, and the ticks of the first and the last
pub record Run : Type 0 where
  pub value : ℕ
  pub count : ℕ
  pub first : ℕ
  pub last : ℕ

abbrev pub one : Reading → Run
one r = record { value = r.value; count = 1; first = r.tick; last = r.tick }

-- one run of two that are neighbours
abbrev pub both : Run → Run → Run
both u v = record { value = u.value; count = u.count + v.count; first = u.first; last = v.last }

-- a run before others: with the next one, if that has the same value
unfoldable pub before : Run → List Run → List Run
before u [] = u ∷ []
before u (v ∷ vs) = cond (eqb u.value v.value) (both u v ∷ vs) (u ∷ v ∷ vs)

unfoldable pub runs : List Reading → List Run
runs [] = []
runs (r ∷ rs) = before (one r) (runs rs)

-- "with the most readings ..; the earliest of equals"
unfoldable pub longer : Run → Run → Run
longer u v = cond (ltb u.count v.count) v u

abbrev pub no_run : Run
no_run = record { value = 0; count = 0; first = 0; last = 0 }

unfoldable pub longest : List Run → Run
longest [] = no_run
longest (u ∷ us) = longer u (longest us)

-- the report, of readings that all are of this id
unfoldable pub report_of : ℕ → List Reading → Report
report_of id rs = record {
  readings = length rs;
  lowest = lowest (values_of id rs);
  highest = highest (values_of id rs);
  sum = total (values_of id rs);
  run = (longest (runs rs)).count;
  ticks = (longest (runs rs)).last - (longest (runs rs)).first;
}

-- "Refusals: 19, a log that breaks this layout or has bytes over, after .. 9"
abbrev pub answer_by : ℕ → ℕ → Option (List Reading) → Result Report Refusal
answer_by line id None = Err BrokenLog
answer_by line id (Some rs) = Ok (report_of id (only line id rs))

unfoldable pub answer_of : List ℕ → ℕ → ℕ → Result Report Refusal
answer_of s line id = cond (leb 1 line && leb line 4) (answer_by line id (log_of s)) (Err NoSuchLine)
