-- A message of bytes is read as an order exactly if it is a request by a row of 01's table in its wrapping, and then as that row's. That is said of each
-- lawful wrapping's own reading, by which the box goes.
-- Assumes nothing.
use Prim.Native.Nat.{ℕ, ◌≤◌}
use mathlib.Core.Path.{◌≡◌, sym, ap, ◌∙◌}
use mathlib.Core.List.{List}
use lib.Dec.{lit≤}
use lib.ListN.{length}
use Rattle.modbus.specs.declared.Order.{Order}
use Rattle.modbus.specs.declared.Reading.TheVariants.{Accepted}
use Rattle.modbus.specs.Numbers.{reading_verdict}
use Rattle.modbus.specs.Wrapping.{Wrapping, reads}
use Rattle.modbus.specs.Lawful.{Lawful}
use Rattle.modbus.specs.Table.{
  TableRow,
  row_03,
  row_04,
  row_06,
  row_10,
  row_17_read,
  row_17_write_00,
  row_17_write_02,
  row_17_both_00,
  row_17_both_01,
  row_17_both_02,
  row_41_0000,
  row_41_0010,
  row_41_0020,
  Request,
  Fits,
  body_in,
  body_of_request,
  asked_by,
}
use Rattle.modbus.specs.Becomes.{Bytes}
use Rattle.modbus.proofs.Orders.{accepted}
use Rattle.modbus.proofs.Wrapping.{as_its_body}
use Rattle.modbus.proofs.Verdicts.{one_reading}
use Rattle.modbus.proofs.Requests.{as_asked}
use Rattle.modbus.proofs.Becomes.{asked}

pub record Sent (W : Wrapping) (s : List ℕ) (o : Order) : Type 0 where
  pub q : Request
  pub fits : Fits q
  pub bytes : s ≡ W.wraps (W.transaction s) (body_of_request q)
  pub question : reading_verdict (Accepted o) ≡ asked_by q

-- the longest has 13 bytes before its checksum
sized : (r : TableRow) (u o v x : ℕ) → (2 ≤ length (body_in r u o v x)) × (length (body_in r u o v x) ≤ 254)
sized row_03 u o v x = (lit≤ tt, lit≤ tt)
sized row_04 u o v x = (lit≤ tt, lit≤ tt)
sized row_06 u o v x = (lit≤ tt, lit≤ tt)
sized row_10 u o v x = (lit≤ tt, lit≤ tt)
sized row_17_read u o v x = (lit≤ tt, lit≤ tt)
sized row_17_write_00 u o v x = (lit≤ tt, lit≤ tt)
sized row_17_write_02 u o v x = (lit≤ tt, lit≤ tt)
sized row_17_both_00 u o v x = (lit≤ tt, lit≤ tt)
sized row_17_both_01 u o v x = (lit≤ tt, lit≤ tt)
sized row_17_both_02 u o v x = (lit≤ tt, lit≤ tt)
sized row_41_0000 u o v x = (lit≤ tt, lit≤ tt)
sized row_41_0010 u o v x = (lit≤ tt, lit≤ tt)
sized row_41_0020 u o v x = (lit≤ tt, lit≤ tt)

module _ {W : Wrapping} (law : Lawful W) where
  -- what is written by the table is read as it was meant
  pub as_sent : (t : ℕ) (q : Request) → Fits q → reading_verdict (reads W (W.wraps t (body_of_request q))) ≡ asked_by q
  as_sent t q fits =
      let long = sized q.row q.unit q.offset q.value q.other in
      ap reading_verdict (as_its_body law t (body_of_request q) long.0 long.1) ∙ as_asked q fits

  pub sent_order : (s : List ℕ) (o : Order) → Sent W s o → reads W s ≡ Accepted o
  sent_order s o w =
      one_reading (reads W s) (Accepted o)
      (ap (λ (l : List ℕ). reading_verdict (reads W l)) w.bytes ∙ as_sent (W.transaction s) w.q w.fits ∙ sym w.question)

  -- and nothing else is read as an order
  pub order_sent : (s : List ℕ) (o : Order) → Bytes s → reads W s ≡ Accepted o → Sent W s o
  order_sent s o h e =
      let a = accepted W s o e in
      let r = asked (W.body s) (law.bytes s h) o a.1 in
      record { q = r.q; fits = r.fits; bytes = sym (law.rewraps s h a.0) ∙ ap (W.wraps (W.transaction s)) r.body; question = r.question }
