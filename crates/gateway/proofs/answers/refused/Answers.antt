-- `gateway::answers::refused` meets its contract: the box stays as it is.
-- Assumes nothing.
use Rattle.std.proofs.Common.{◌≡◌, length, rules}
use Rattle.gateway.proofs.Index.{unmapped, whole}
use Rattle.gateway.proofs.answers.refused.Goals as goal

pub returns : goal.returns
returns c =
    let l = c.args.gateway.lines in
    let four : length l ≡ 4 = search (rules, unmapped) in
    rw (← (whole l four), ← c.number.ensures)
