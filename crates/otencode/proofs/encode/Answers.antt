-- `otencode::encode` meets its contract: each word's samples stand behind those before.
-- Assumes nothing.
use Rattle.std.proofs.Common.{arith}
use Rattle.otencode.proofs.Behind.{more}
use Rattle.otencode.proofs.encode.Goals as goal

pub loop-k-preserved : goal.loop-k-preserved
loop-k-preserved c = more _ _ _ _ _ (omega arith) (omega arith) c.write.ensures.bytes c.word_at.ensures c.loop-k.invariant
