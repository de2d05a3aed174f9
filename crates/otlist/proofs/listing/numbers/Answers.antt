-- `otlist::listing::numbers` meets its contract: a signed pair's two numbers go one behind the other, each as wide as its byte.
-- Assumes nothing.
use Rattle.std.proofs.Common.{◌≡◌, ℕ, ◌/◌, ◌%◌, List, refl, ap, ◌∙◌, arith, get_or, to_z-of_z, w8, w16}
use Rattle.text.proofs.Puts.{puts_field}
use Rattle.otlist.specs.Listing.{listed_numbers}
use Rattle.otlist.proofs.listing.numbers.Goals as goal

pub returns-in-SPair : goal.returns-in-SPair
unfolding listed_numbers
returns-in-SPair c =
    let high : get_or c.to_be_bytes.result 0 0 ≡ c.args.v / 256 = ap (λ (l : List ℕ). get_or l 0 0) c.to_be_bytes.ensures ∙ omega arith in
    let low : get_or c.to_be_bytes.result 1 0 ≡ c.args.v % 256 = ap (λ (l : List ℕ). get_or l 1 0) c.to_be_bytes.ensures in
    rw (
      c.in-SPair.is,
      puts_field,
      c.signed-in-SPair-2.ensures,
      c.push-u.ensures,
      c.signed-in-SPair.ensures,
      to_z-of_z {w = w16} {z = c.from.result} (record { sfits = c.from.type_inv }),
      to_z-of_z {w = w16} {z = c.from-in-SPair.result} (record { sfits = c.from-in-SPair.type_inv }),
      c.from.ensures,
      c.from-in-SPair.ensures,
      to_z-of_z {w = w8} {z = c.cast_signed-in-SPair.result} (record { sfits = c.cast_signed-in-SPair.type_inv }),
      to_z-of_z {w = w8} {z = c.cast_signed-in-SPair-2.result} (record { sfits = c.cast_signed-in-SPair-2.type_inv }),
      c.cast_signed-in-SPair.ensures,
      c.cast_signed-in-SPair-2.ensures,
      high,
      low,
    ) refl
