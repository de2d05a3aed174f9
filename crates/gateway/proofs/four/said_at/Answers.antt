-- `gateway::four::said_at` meets its contract: what a line says is read at its place.
-- Assumes nothing.
use Rattle.gateway.proofs.Index.{said_place}
use Rattle.gateway.proofs.four.said_at.Goals as goal

pub returns : goal.returns
returns c l = rw c.place.ensures.0 (said_place l c.args.saids c.args.k)
