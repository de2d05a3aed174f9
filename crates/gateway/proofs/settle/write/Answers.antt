-- `gateway::settle::write` meets its contract: the room is large enough, so the reply is written.
-- Assumes nothing.
use Rattle.gateway.proofs.Rooms.{taken, counted, filled}
use Rattle.gateway.proofs.settle.write.Goals as goal

pub unwrap-requires : goal.unwrap-requires
unwrap-requires c = taken _ _ _ _ c.requires _ c.write.ensures.0

pub returns : goal.returns
returns c = (
  counted _ _ _ _ c.requires _ c.write.ensures.0 c.unwrap.ensures,
  filled _ _ _ _ c.requires _ c.write.ensures.1,
)
