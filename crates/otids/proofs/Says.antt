-- A line of the list fits the text's room, so what is printed for an id is its line, whole; and the lines of all ids are those of one after
-- the other.
-- Assumes nothing.
use mathlib.Core.Path.{◌≡◌, sym, ap}
use mathlib.Core.List.{[], ◌++◌}
use Prim.Native.Nat.{ℕ, suc, ◌+◌, ◌-◌, ◌≤◌, ◌<◌}
use native.Mathlib.Omega.{arith}
use lib.ListN.{length, length-append}
use Rattle.text.specs.Text.{empty_text, puts, says}
use Rattle.text.proofs.Puts.{decimal_short, hex_length, says_puts}
use Rattle.ids.specs.declared.Kind.{Kind}
use Rattle.ids.specs.declared.Kind.TheVariants.{Real, S16, U16, Pair, SPair, Raw}
use Rattle.ids.specs.Ids.{kind_of}
use Rattle.kinds.proofs.Short.{name_short}
use Rattle.otids.specs.Lines.{scale_of, line_of, line_if, lines_from}

scale_short : (k : Kind) → length (scale_of k) ≤ 10
unfolding scale_of
scale_short Real = omega arith
scale_short S16 = omega arith
scale_short U16 = omega arith
scale_short Pair = omega arith
scale_short SPair = omega arith
scale_short Raw = omega arith

-- the text of an id's line says just that line
pub whole : (id : ℕ) → id < 256 → says (puts empty_text (line_of id)) ≡ line_of id
unfolding line_of
whole id h =
    let i = decimal_short 2 id (omega arith) in
    let x = hex_length 2 id in
    let k = name_short (kind_of id) in
    let s = scale_short (kind_of id) in
    let short : length (line_of id) ≤ 120 = simp length-append (omega arith) in
    says_puts (line_of id) short

-- one id after the other, and none from 256 on, for `add_rows`
pub rest : (id : ℕ) → id < 256 → line_if id ++ lines_from (256 - (id + 1)) (id + 1) ≡ lines_from (256 - id) id
unfolding lines_from
rest id h =
    let left : 256 - id ≡ suc (256 - (id + 1)) = omega arith in
    sym (ap (λ (n : ℕ). lines_from n id) left)

pub over : (id : ℕ) → 256 ≤ id → lines_from (256 - id) id ≡ []
unfolding lines_from
over id h =
    let none : 256 - id ≡ 0 = omega arith in
    ap (λ (n : ℕ). lines_from n id) none
