-- A word by its fields: every word has them, the readers give them back, and a word that is built has those that went in, spare bits 0,
-- and even parity; and there is one such word.
-- Assumes nothing.
use Rattle.std.specs.Prelude.{Result, Ok, Err}
use Rattle.refusals.specs.declared.Refusal.{Refusal}
use mathlib.Core.Path.{◌≡◌}
use Prim.Native.Nat.{ℕ, ◌+◌, ◌*◌, ◌/◌, ◌%◌, ◌^◌, ◌<◌}
use native.Mathlib.Omega.{arith}
use borrow.Author.Tests.{le-ltb, eqb-true}
use native.Mathlib.Nat.{mod-lt}
use lib.Count.{ones}
use Rattle.word.specs.Frame.{type_of, spare_of, id_of, value_of, even_of, bare, evened, built_of}
use Rattle.word.specs.Fields.{Fields, Fit, word_of, Read, BuiltFrom}
use Rattle.word.proofs.Clash.{clash}
use Rattle.word.proofs.Parity.{two_pos, above, evened_even}

pub fields : (f : Fields) → Fit f → Read f
unfolding type_of spare_of id_of value_of
fields f h = record { type = omega arith; spare = omega arith; id = omega arith; value = omega arith }

-- every word is that of its fields
pub of_fields : (w : ℕ) → w < 2 ^ 32 → (f : Fields) × (Fit f × (word_of f ≡ w))
of_fields w h =
    let x = w / 0x1_0000 in
    let y = x / 256 in
    let z = y / 16 in (
      record { parity = z / 8; type = z % 8; spare = y % 16; id = x % 256; value = w % 0x1_0000 },
      (record { one_bit = omega arith; three_bits = omega arith; four_bits = omega arith; a_byte = omega arith; two_bytes = omega arith }, omega arith),
    )

-- a type up to 7 is built
pub built_word : (t i v : ℕ) → t < 8 → built_of t i v ≡ Ok (evened (bare t i v))
unfolding built_of
built_word t i v ht = rw (le-ltb 7 t (omega arith))

-- so what is built is that word, and never a refusal
pub is_built : (t i v w : ℕ) (b : Result ℕ Refusal) → t < 8 → b ≡ built_of t i v → b ≡ Ok w → w ≡ evened (bare t i v)
is_built t i v w b ht made is = let one = built_word t i v ht in cc

pub not_refused : (t i v : ℕ) (n : Refusal) (b : Result ℕ Refusal) → t < 8 → b ≡ built_of t i v → b ≡ Err n → ⊥
not_refused t i v n b ht made is = let one = built_word t i v ht in clash cc

-- from its type, id and value
pub built_from : (t i v : ℕ) → t < 8 → i < 256 → v < 65536 → BuiltFrom t i v (evened (bare t i v))
unfolding even_of
built_from t i v ht hi hv =
    let p = ones (bare t i v) % 2 in
    let e = eqb-true (ones (evened (bare t i v)) % 2) 0 (evened_even (bare t i v) (omega arith)) in
    record { parity = p; one_bit = mod-lt (ones (bare t i v)) two_pos; word = omega arith; even = e }

pub written : (t i v : ℕ) → t < 8 → i < 256 → v < 65536 → (w : ℕ) × ((built_of t i v ≡ Ok w) × BuiltFrom t i v w)
written t i v ht hi hv = (evened (bare t i v), (built_word t i v ht, built_from t i v ht hi hv))

-- of a word that is built, the parity bit is that of the other bits
parity_of : (t i v w : ℕ) → t < 8 → i < 256 → v < 65536 → (f : BuiltFrom t i v w) → f.parity ≡ ones (bare t i v) % 2
parity_of t i v w ht hi hv f =
    let is : w ≡ bare t i v + f.parity * 2 ^ 31 = omega (arith, f.word) in
    let even : ones (bare t i v + f.parity * 2 ^ 31) % 2 ≡ 0 = rw is at f.even in
    omega (arith, above f.parity (bare t i v) f.one_bit (omega arith), even, f.one_bit)

pub one_word : (t i v w x : ℕ) → t < 8 → i < 256 → v < 65536 → BuiltFrom t i v w → BuiltFrom t i v x → w ≡ x
one_word t i v w x ht hi hv f g = omega (arith, f.word, g.word, parity_of t i v w ht hi hv f, parity_of t i v x ht hi hv g)
