-- `gateway::Gateway::message` meets its contract: an order that its line takes, or what is said at once.
-- Assumes nothing.
use Rattle.std.proofs.Common.{◌≡◌, not, refl, sym, ap, ◌∙◌, length, rules}
use borrow.Author.Tests.{le-leb}
use Rattle.promises.specs.Four.{place_of}
use Rattle.promises.specs.Entries.{message_of, read_of, taken_of}
use Rattle.modbus.specs.declared.Reading.{Reading}
use Rattle.modbus.specs.Wrapping.{wrapping_of}
use Rattle.modbus.proofs.Messages.{right}
use Rattle.modbus.proofs.Wrapping.{lawful}
use Rattle.promises.proofs.Numbers.{four_of_lem}
use Rattle.gateway.specs.Reads.{box_of, line_asked, able_of}
use Rattle.gateway.proofs.Index.{unmapped, whole, own_line, stored}
use Rattle.gateway.proofs.Unasked.{said_at_once, while_busy, free, no_order, unaccepted, an_order, was_asked, able_at}
use Rattle.gateway.proofs.Gateway.message.Goals.{in-Accepted+else-is_none, in_default}
use Rattle.gateway.proofs.Gateway.message.Goals as goal

pub returns-then-is_none : goal.returns-then-is_none
unfolding message_of read_of taken_of
returns-then-is_none c =
    let a = c.args in
    let l = a.self.lines in
    let four : length l ≡ 4 = search (rules, unmapped) in
    let g = box_of a.self in
    let W = wrapping_of a.self.form in
    let t = c.transaction-transaction.result in
    let asks = c.request-request in
    let order = c.order-step in
    let i = c.place-at.result in
    let place = c.place-at.ensures.0 ∙ ap place_of c.line_asked.ensures in
    let is = sym c.in-Accepted.is ∙ able_at W t g asks.result _ c.able-reading.result c.able-reading.ensures (own_line l i _ place) in
    let asked = was_asked W t g asks.result _ is in
    let here = place ∙ ap (λ (r : Reading). place_of (line_asked r)) asked in
    rw (
      le-leb _ _ c.if-room-lt-ROOM.false,
      ← asks.ensures,
      ← c.transaction-transaction.ensures,
      an_order W t g asks.result _ is (free _ (c.is_none.ensures ∙ ap not c.if-is_none.true)),
      ← c.question_of.ensures,
      ← (own_line l i _ here),
      ← order.ensures,
      stored l i _ order.result.line here four
          (let r = right (lawful a.self.form) _ _ (sym asks.ensures ∙ asked) in four_of_lem _ r.from r.upto),
    ) (refl, refl)

pub returns : goal.returns
unfolding message_of
returns c =
    let a = c.args in
    let l = a.self.lines in
    let four : length l ≡ 4 = search (rules, unmapped) in
    let g = box_of a.self in
    let W = wrapping_of a.self.form in
    let t = c.transaction-transaction.result in
    let asks = c.request-request in
    let known = own_line l c.place-at.result _ (c.place-at.ensures.0 ∙ ap place_of c.line_asked.ensures) in
    let able = able_at W t g asks.result _ c.able-reading.result c.able-reading.ensures known in
    let come = c.match-reading in
    let told = c.at_once-told in
    let same : come.reading ≡ able_of g.lines asks.result =
    elim come.branch [ in-Accepted+else-is_none w ↦ w.reading-is ∙ sym w.in-Accepted.is ∙ able | in_default w ↦ w.reading-is ∙ able ] in
    let law : read_of W g t asks.result ≡ said_at_once W t g (able_of g.lines asks.result) =
    elim come.branch [
      | in-Accepted+else-is_none w ↦ while_busy W t g asks.result (w.is_none.ensures ∙ ap not w.if-is_none.false)
      | in_default w ↦ no_order W t g asks.result (rw (← able) (unaccepted _ w.in_default.not-Accepted))
    ] in
    rw (le-leb _ _ c.if-room-lt-ROOM.false, ← asks.ensures, ← c.transaction-transaction.ensures, law, ← same) (
      rw (← told.ensures.0, ← (whole l four)),
      told.ensures.1,
    )
