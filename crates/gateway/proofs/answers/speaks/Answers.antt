-- `gateway::answers::speaks` meets its contract: what the order's line said, and the box after that.
-- Assumes nothing.
use Rattle.std.proofs.Common.{◌≡◌, refl, length, rules}
use Rattle.gateway.proofs.Index.{unmapped, lines_in}
use Rattle.gateway.proofs.answers.speaks.Goals as goal

pub returns : goal.returns
returns c =
    let a = c.args in
    let l = a.gateway.lines in
    let four : length l ≡ 4 = search (rules, unmapped) in
    rw (
      ← (c.after_tick-settled.ensures l),
      ← c.tell-told.ensures.0,
      ← c.still-next.ensures,
      ← (c.outs_of-outs.ensures l),
      ← (lines_in l a.saids four),
    ) (refl, c.tell-told.ensures.1)
