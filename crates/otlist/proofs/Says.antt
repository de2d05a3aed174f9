-- A line of the listing fits the text's room, so what is printed for a word is 01's line, whole.
-- Assumes nothing.
use mathlib.Core.Path.{◌≡◌, refl}
use mathlib.Core.Bool.{Bool, true, false, cond}
use Prim.Native.Nat.{ℕ, suc, ◌+◌, ◌-◌, ◌/◌, ◌%◌, ◌^◌, ◌≤◌, ◌<◌}
use native.Mathlib.Omega.{arith}
use lib.Dec.{ltb}
use lib.IntN.{pos, negsuc}
use lib.ListN.{length, length-append}
use borrow.Author.Tests.{ltb-false}
use Rattle.word.specs.Frame.{even_of, type_of, id_of, value_of}
use Rattle.text.specs.Text.{empty_text, puts, says}
use Rattle.text.proofs.Puts.{decimal_short, hex_length, says_puts}
use Rattle.ids.specs.declared.Kind.{Kind}
use Rattle.ids.specs.declared.Kind.TheVariants.{Real, S16, U16, Pair, SPair, Raw}
use Rattle.ids.specs.Ids.{kind_of}
use Rattle.ids.specs.Signed.{signed}
use Rattle.kinds.proofs.Short.{either, name_short}
use Rattle.otlist.specs.Listing.{signed_decimal, listed_numbers, listed_fields, listed_of, short_line}

signed_short : (half n : ℕ) → half ≤ 0x8000 → n < half + half → length (signed_decimal (signed half n)) ≤ 6
unfolding signed_decimal
signed_short half n h lt = go (ltb n half) refl
  where
    go : (b : Bool) → ltb n half ≡ b → length (signed_decimal (cond b (pos n) (negsuc (half + half - suc n)))) ≤ 6
    go true e = let p = decimal_short 4 n (omega arith) in omega arith
    go false e = let above = ltb-false n half e in let q = decimal_short 4 (suc (half + half - suc n)) (omega arith) in omega arith

numbers_short : (k : Kind) (v : ℕ) → v < 65536 → length (listed_numbers k v) ≤ 13
unfolding listed_numbers
numbers_short Real v h = let n = signed_short 0x8000 v (omega arith) (omega arith) in omega arith
numbers_short S16 v h = let n = signed_short 0x8000 v (omega arith) (omega arith) in omega arith
numbers_short U16 v h = let n = decimal_short 4 v (omega arith) in omega arith
numbers_short Pair v h =
    let high = decimal_short 4 (v / 256) (omega arith) in
    let low = decimal_short 4 (v % 256) (omega arith) in
    rw length-append (omega arith)
numbers_short SPair v h =
    let high = signed_short 0x80 (v / 256) (omega arith) (omega arith) in
    let low = signed_short 0x80 (v % 256) (omega arith) (omega arith) in
    rw length-append (omega arith)
numbers_short Raw v h = let n = decimal_short 4 v (omega arith) in omega arith

type_low : (w : ℕ) → type_of w < 100000
unfolding type_of
type_low w = omega arith

id_low : (w : ℕ) → id_of w < 100000
unfolding id_of
id_low w = omega arith

value_low : (w : ℕ) → value_of w < 65536
unfolding value_of
value_low w = omega arith

fields_short : (w : ℕ) → w < 2 ^ 32 → length (listed_fields w) ≤ 40
unfolding listed_fields
fields_short w h =
    let t = decimal_short 4 (type_of w) (type_low w) in
    let i = decimal_short 4 (id_of w) (id_low w) in
    let v = hex_length 4 (value_of w) in
    let k = name_short (kind_of (id_of w)) in
    let n = numbers_short (kind_of (id_of w)) (value_of w) (value_low w) in
    simp length-append (omega arith)

-- "prints a line each": the text of a word's line says just that line
pub listed : (w : ℕ) → w < 2 ^ 32 → says (puts empty_text (listed_of w)) ≡ listed_of w
unfolding listed_of
listed w h = says_puts (listed_of w) (either (even_of w) _ _ 120 (let f = fields_short w h in omega arith) (omega arith))

-- and that of a tail
pub short_said : says (puts empty_text short_line) ≡ short_line
short_said = says_puts short_line (omega arith)
