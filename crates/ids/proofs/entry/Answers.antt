-- `ids::entry` meets its contract: the table's number is that of the id's row.
-- Assumes nothing.
use Rattle.std.proofs.Common.{arith}
use Rattle.ids.proofs.Entries.{table, is_entry}
use Rattle.ids.proofs.entry.Goals as goal

pub returns : goal.returns
unfolding table
returns c = is_entry c.args.id (omega arith)
