-- `otids::row::line` meets its contract: part by part.
-- Assumes nothing.
use Rattle.text.specs.Text.{puts}
use Rattle.text.proofs.Puts.{puts_field}
use Rattle.otids.specs.Lines.{line_of}
use Rattle.otids.proofs.row.line.Goals as goal

pub returns : goal.returns
unfolding line_of puts
returns c = rw (
  puts_field,
  puts_field,
  puts_field,
  puts_field,
  ← c.kind_of-kind.ensures,
  ← c.empty.ensures,
  ← c.decimal.ensures,
  ← c.push-a.ensures,
  ← c.hex.ensures,
  ← c.push-b.ensures,
  ← c.named.ensures,
  ← c.push-c.ensures,
  ← c.scale.ensures,
  ← c.push-d.ensures,
  ← c.readable.ensures,
  ← c.mark.ensures,
  ← c.push-e.ensures,
  ← c.writable.ensures,
  ← c.mark-2.ensures,
) c.push.ensures
