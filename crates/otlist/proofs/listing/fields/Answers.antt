-- `otlist::listing::fields` meets its contract: part by part.
-- Assumes nothing.
use Rattle.text.proofs.Puts.{puts_field, puts_last}
use Rattle.otlist.specs.Listing.{listed_fields}
use Rattle.otlist.proofs.listing.fields.Goals as goal

pub returns : goal.returns
unfolding listed_fields
returns c = rw (
  puts_field,
  puts_field,
  puts_field,
  puts_field,
  puts_last,
  ← c.id_of-id.ensures,
  ← c.value_of-value.ensures,
  ← c.kind_of-kind.ensures,
  ← c.type_of.ensures,
  ← c.decimal.ensures,
  ← c.push-a.ensures,
  ← c.decimal-2.ensures,
  ← c.push-b.ensures,
  ← c.hex.ensures,
  ← c.push-c.ensures,
  ← c.named.ensures,
  ← c.push-d.ensures,
  ← c.numbers.ensures,
) c.push.ensures
