-- `gateway::Gateway::boiler` meets its contract: the frame's own line takes it.
-- Assumes nothing.
use Rattle.std.proofs.Common.{◌≡◌, refl, sym, ◌∙◌, length, rules}
use borrow.Author.Tests.{le-leb}
use Rattle.turns.specs.Turns as turns
use Rattle.promises.specs.Entries.{boiler_of}
use Rattle.promises.proofs.Numbers.{inside_four}
use Rattle.gateway.proofs.Index.{unmapped, own_step, stored}
use Rattle.gateway.proofs.Gateway.boiler.Goals as goal

pub returns : goal.returns
unfolding boiler_of
returns c =
    let a = c.args in
    let four : length a.self.lines ≡ 4 = search (rules, unmapped) in
    let inside = sym c.inside.ensures ∙ c.if-not-inside.false in
    rw (
      le-leb _ _ c.if-room-lt-ROOM.false,
      inside,
      ← (own_step a.self.lines _ a.line (λ l. turns.boiler_of l a.frame) c.boiler-step.result c.place-at.ensures.0 c.boiler-step.ensures),
      stored a.self.lines _ a.line c.boiler-step.result.line c.place-at.ensures.0 four (inside_four a.line inside),
      ← c.after_boiler-settled.ensures,
      ← c.plain.ensures,
      ← c.tell-told.ensures.0,
      ← c.still-self.ensures,
    ) (refl, c.tell-told.ensures.1)
