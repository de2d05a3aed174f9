-- Each raw number comes back from its typed value; the answers are determined; what is refused is exactly what no raw number gives.
-- Assumes nothing.
use Rattle.std.specs.Prelude.{Result, Ok, Err}
use Rattle.refusals.specs.declared.Refusal.{Refusal}
use Rattle.refusals.specs.Numbers.{number_of}
use Rattle.refusals.proofs.Names.{named, named_back}
use Rattle.ids.specs.declared.Kind.{Kind}
use Rattle.ids.specs.declared.Kind.TheVariants as kind
use Rattle.std.proofs.Common.{◌≡◌, ℕ, ◌+◌, ◌*◌, ◌/◌, ◌%◌, ◌<◌, [], sym, refl, ap, ◌∙◌, ap₂, arith, w8, w16}
use lib.Ieee.{Float}
use mir.ValLaws.{of_z-to_z}
use Rattle.word.specs.Numbers.{Valued, valued, refused}
use Rattle.word.proofs.Clash.{clash}
use Rattle.places.specs.Bytes.{pair_at}
use Rattle.places.proofs.Place.{pair_back}
use Rattle.ids.specs.Ids.{kind_of}
use Rattle.values.specs.Real.{real_of, BackOf}
use Rattle.values.specs.Typed.{read_as, BitsOf}
use Rattle.values.specs.Numbers.{back_value}
use Rattle.values.specs.declared.Typed.{Typed}
use Rattle.values.specs.declared.Typed.TheVariants.{Real, S16, U16, Pair, SPair, Raw}

pub round_trip : (k : Kind) (raw : ℕ) → raw < 0x1_0000 → (r : Result ℕ Refusal) → BitsOf (read_as k raw) r → r ≡ Ok raw
unfolding read_as pair_at
round_trip kind.Real raw h r p = p.given raw h refl
round_trip kind.S16 raw h r p = p ∙ ap Ok (of_z-to_z w16 raw (omega arith))
round_trip kind.U16 raw h r p = p
round_trip kind.Pair raw h r p = p ∙ ap Ok (pair_back [] [] raw)
round_trip kind.SPair raw h r p =
    p
    ∙ ap₂ (λ (x y : ℕ). Ok (x * 256 + y)) (of_z-to_z w8 (raw / 256) (omega arith)) (of_z-to_z w8 (raw % 256) (omega arith))
    ∙ ap Ok (pair_back [] [] raw)
round_trip kind.Raw raw h r p = p

-- two answers that are the same in 01's numbers are equal
back : Valued → Result ℕ Refusal
back (valued raw) = Ok raw
back (refused n) = Err (named n)

value_back : (r : Result ℕ Refusal) → back (back_value r) ≡ r
unfolding back
value_back (Ok raw) = refl
value_back (Err n) = ap Err (named_back n)

pub one_back : (r s : Result ℕ Refusal) → back_value r ≡ back_value s → r ≡ s
one_back r s e = sym (value_back r) ∙ ap back e ∙ value_back s

-- "Each typed value turns back into its 16 bits": every id, all 65,536 values
pub there_and_back : (id raw : ℕ) → raw < 0x1_0000 → (r : Result ℕ Refusal) → BitsOf (read_as (kind_of id) raw) r → back_value r ≡ valued raw
there_and_back id raw h r p = ap back_value (round_trip (kind_of id) raw h r p)

-- two answers that the contract allows are equal
back_one : (x : Float) (r s : Result ℕ Refusal) → BackOf x r → BackOf x s → r ≡ s
back_one x (Ok a) s p q = sym (q.given a (p.found a refl).0 (p.found a refl).1)
back_one x (Err m) (Ok b) p q = p.given b (q.found b refl).0 (q.found b refl).1
back_one x (Err m) (Err n) p q = ap Err (p.number m refl ∙ sym (q.number n refl))

pub bits_one : (t : Typed) (r s : Result ℕ Refusal) → BitsOf t r → BitsOf t s → r ≡ s
bits_one (Real x) r s p q = back_one x r s p q
bits_one (S16 z) r s p q = p ∙ sym q
bits_one (U16 n) r s p q = p ∙ sym q
bits_one (Pair h l) r s p q = p ∙ sym q
bits_one (SPair h l) r s p q = p ∙ sym q
bits_one (Raw n) r s p q = p ∙ sym q

-- refused: exactly the floats that no raw number gives
pub refused_none : (x : Float) (n : Refusal) → BackOf x (Err n) → (raw : ℕ) → raw < 0x1_0000 → x ≡ real_of raw → ⊥
refused_none x n p raw h e = let q : Err n ≡ Ok raw = p.given raw h e in clash cc

pub none_refused : (x : Float) (r : Result ℕ Refusal) → BackOf x r → ((raw : ℕ) → raw < 0x1_0000 → x ≡ real_of raw → ⊥) → back_value r ≡ refused 10
none_refused x (Ok a) p f = absurd (f a (p.found a refl).0 (p.found a refl).1)
none_refused x (Err n) p f = ap (λ (r : Refusal). refused (number_of r)) (p.number n refl)
