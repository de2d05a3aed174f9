-- `gateway::Gateway::thermostat` meets its contract: the frame's own line takes it, and what is told is what it says.
-- Assumes nothing.
use Rattle.std.proofs.Common.{◌≡◌, sym, ◌∙◌, length, rules}
use Rattle.turns.specs.Turns as turns
use Rattle.promises.specs.Entries.{thermostat_of}
use Rattle.promises.proofs.Numbers.{inside_four}
use Rattle.gateway.proofs.Index.{unmapped, own_step, stored}
use Rattle.gateway.proofs.Gateway.thermostat.Goals as goal

pub returns : goal.returns
unfolding thermostat_of
returns c =
    let a = c.args in
    let four : length a.self.lines ≡ 4 = search (rules, unmapped) in
    let inside = sym c.inside.ensures ∙ c.if-not-inside.false in
    rw (
      inside,
      ← (own_step a.self.lines _ a.line (λ l. turns.thermostat_of l a.frame) c.thermostat-step.result c.place-i.ensures.0 c.thermostat-step.ensures),
      stored a.self.lines _ a.line c.thermostat-step.result.line c.place-i.ensures.0 four (inside_four a.line inside),
      ← c.plain.ensures,
    )
