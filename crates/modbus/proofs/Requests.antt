-- A request by a row of 01's table is read as that row's order, for every unit 1 to 4, offset and value.
-- Assumes nothing.
use Prim.Native.Nat.{ℕ, ◌/◌, ◌≤◌}
use mathlib.Core.Path.{◌≡◌, refl, ap, ◌∙◌}
use mathlib.Core.Logic.{◌⊎◌, inl, inr}
use native.Mathlib.Omega.{arith}
use borrow.Author.Tests.{ne_eqb}
use Rattle.modbus.specs.declared.Reading.{Reading}
use Rattle.modbus.specs.declared.shape.Fields.{Fields}
use Rattle.modbus.specs.Shape.{read_fields, write_fields}
use Rattle.modbus.specs.Mapping.{mapping_rows, fits_of, first_of, ask_of, found_as, mapped_of, body_read}
use Rattle.modbus.specs.Numbers.{Verdict, exception, reading_verdict}
use Rattle.modbus.specs.Table.{
  TableRow,
  row_03,
  row_04,
  row_06,
  row_10,
  row_17_read,
  row_17_write_00,
  row_17_write_02,
  row_17_both_00,
  row_17_both_01,
  row_17_both_02,
  row_41_0000,
  row_41_0010,
  row_41_0020,
  Request,
  Named,
  Fits,
  write_17,
  both_17,
  say_41,
  body_in,
  body_of_request,
  asked_in,
  asked_by,
}
use Rattle.modbus.proofs.Checks.{found}
use Rattle.modbus.proofs.Asked.{sides, reads_03, reads_04, writes_06, writes_10, reads_17, writes_17, does_both_17, says_41}

module _ (u : ℕ) where
  -- what the rows say of fields
  abbrev answer : Fields → Verdict
  answer a = reading_verdict (found_as u a (first_of mapping_rows a))

  answered : {r : Reading} (a : Fields) → r ≡ mapped_of u a → (1 ≤ a.reads → 1 ≤ a.writes → a.from ≡ a.to) → reading_verdict r ≡ answer a
  answered a e alike = ap reading_verdict (e ∙ found u a alike)

  module _ (lo : 1 ≤ u) (hi : u ≤ 4) where
    pub on_write : (r w v : ℕ) → reading_verdict (body_read (write_17 u r w v)) ≡ answer (sides 0 1 r w v)
    on_write r w v = answered (sides 0 1 r w v) (writes_17 u lo hi r w v) (λ p q. absurd (omega arith))

    pub on_both : (o v : ℕ) → reading_verdict (body_read (both_17 u o o v)) ≡ answer (sides 1 1 o o v)
    on_both o v = answered (sides 1 1 o o v) (does_both_17 u lo hi o o v) (λ p q. refl)

    pub on_41 : (o v m : ℕ) → reading_verdict (body_read (say_41 u o v m)) ≡ answer (write_fields 0x41 o v m)
    on_41 o v m = answered (write_fields 0x41 o v m) (says_41 u lo hi o v m) (λ p q. absurd (omega arith))

    as_asked_in : (r : TableRow) (o v x : ℕ) → Named r o → reading_verdict (body_read (body_in r u o v x)) ≡ asked_in r u o v
    unfolding fits_of ask_of
    as_asked_in row_03 o v x h = answered (read_fields 0x03 o) (reads_03 u lo hi o) (λ r w. absurd (omega arith))
    as_asked_in row_04 o v x h = answered (read_fields 0x04 o) (reads_04 u lo hi o) (λ r w. absurd (omega arith))
    as_asked_in row_06 o v x h = answered (write_fields 0x06 o v 0) (writes_06 u lo hi o v) (λ r w. absurd (omega arith))
    as_asked_in row_10 o v x h = answered (write_fields 0x10 o v 0) (writes_10 u lo hi o v) (λ r w. absurd (omega arith))
    as_asked_in row_17_read o v x h = answered (sides 1 0 o x 0) (reads_17 u lo hi o x) (λ r w. absurd (omega arith))
    as_asked_in row_17_write_00 o v x h = on_write x o v ∙ (let e : o / 256 ≡ 0x00 = omega (arith, h) in rw e)
    as_asked_in row_17_write_02 o v x h = on_write x o v ∙ (let e : o / 256 ≡ 0x02 = omega (arith, h.0, h.1) in rw e)
    as_asked_in row_17_both_00 o v x h = on_both o v ∙ (let e : o / 256 ≡ 0x00 = omega (arith, h) in rw e)
    as_asked_in row_17_both_01 o v x h = on_both o v ∙ (let e : o / 256 ≡ 0x01 = omega (arith, h.0, h.1) in rw e)
    as_asked_in row_17_both_02 o v x h = on_both o v ∙ (let e : o / 256 ≡ 0x02 = omega (arith, h.0, h.1) in rw e)
    as_asked_in row_41_0000 o v x h = on_41 o v 0x0000 ∙ (let e : o / 256 ≡ 0x00 = omega (arith, h) in rw e)
    as_asked_in row_41_0010 o v x h = on_41 o v 0x0010 ∙ (let e : o / 256 ≡ 0x00 = omega (arith, h) in rw e)
    as_asked_in row_41_0020 o v x h = on_41 o v 0x0020 ∙ (let e : o / 256 ≡ 0x00 = omega (arith, h) in rw e)

  -- pages and messages that no row names
  pub unnamed_alone : (r w v : ℕ) → ((0x0100 ≤ w) × (w ≤ 0x01FF)) ⊎ (0x0300 ≤ w) → answer (sides 0 1 r w v) ≡ exception u 0x17 0x02
  unfolding fits_of
  unnamed_alone r w v (inl h) = rw (ne_eqb 0x00 (w / 256) (λ e. omega (arith, h.0, h.1)), ne_eqb 0x02 (w / 256) (λ e. omega (arith, h.0, h.1)))
  unnamed_alone r w v (inr h) = rw (ne_eqb 0x00 (w / 256) (λ e. omega arith), ne_eqb 0x02 (w / 256) (λ e. omega arith))

  pub unnamed_page : (o v : ℕ) → 0x0300 ≤ o → answer (sides 1 1 o o v) ≡ exception u 0x17 0x02
  unfolding fits_of
  unnamed_page o v h =
      rw (ne_eqb 0x00 (o / 256) (λ e. omega arith), ne_eqb 0x01 (o / 256) (λ e. omega arith), ne_eqb 0x02 (o / 256) (λ e. omega arith))

  pub high_page : (o v m : ℕ) → 0x0100 ≤ o → answer (write_fields 0x41 o v m) ≡ exception u 0x41 0x02
  unfolding fits_of
  high_page o v m h = rw (ne_eqb 0x00 (o / 256) (λ e. omega arith))

  pub unnamed_message : (o v m : ℕ) → o ≤ 0x00FF → (m ≡ 0x0000 → ⊥) → (m ≡ 0x0010 → ⊥) → (m ≡ 0x0020 → ⊥) →
      answer (write_fields 0x41 o v m) ≡ exception u 0x41 0x03
  unfolding fits_of ask_of
  unnamed_message o v m h n0 n1 n2 =
      let e : o / 256 ≡ 0x00 = omega arith in
      rw (e, ne_eqb m 0x0000 n0, ne_eqb m 0x0010 n1, ne_eqb m 0x0020 n2)

pub as_asked : (q : Request) → Fits q → reading_verdict (body_read (body_of_request q)) ≡ asked_by q
as_asked q fits = as_asked_in q.unit fits.from fits.upto q.row q.offset q.value q.other fits.named
