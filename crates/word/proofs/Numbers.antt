-- Two answers that are the same in 01's numbers are equal; "type above 7 when a word is written" is 6; and a word that a line looks at is 5, or
-- else 16, or has no number.
-- Assumes nothing.
use Rattle.std.specs.Prelude.{Result, Ok, Err}
use Rattle.refusals.specs.declared.Refusal.{Refusal}
use Prim.Native.Nat.{ℕ, ◌%◌, ◌<◌}
use mathlib.Core.Path.{◌≡◌, refl, sym, ap, ◌∙◌}
use mathlib.Core.List.{List, [], ◌∷◌}
use native.Mathlib.Omega.{arith}
use lib.Count.{ones}
use borrow.Author.Tests.{lt-ltb, eq-eqb, ne_eqb}
use Rattle.word.specs.Frame.{even_of, spare_of, clear_of, checked_of, built_of}
use Rattle.refusals.proofs.Names.{named, named_back}
use Rattle.word.specs.Numbers.{Valued, valued, refused, built_value, number_of}

built : Valued → Result ℕ Refusal
built (valued w) = Ok w
built (refused n) = Err (named n)

built_back : (b : Result ℕ Refusal) → built (built_value b) ≡ b
unfolding built
built_back (Ok w) = refl
built_back (Err r) = ap Err (named_back r)

pub one_built : (a b : Result ℕ Refusal) → built_value a ≡ built_value b → a ≡ b
one_built a b e = sym (built_back a) ∙ ap built e ∙ built_back b

pub six : (t i v : ℕ) → 7 < t → built_value (built_of t i v) ≡ refused 6
unfolding built_of
six t i v h = rw (lt-ltb 7 t h)

checks : List ℕ → Result (Unit {0}) Refusal
checks [] = (Ok tt)
checks (n ∷ l) = Err (named n)

checks_back : (c : Result (Unit {0}) Refusal) → checks (number_of c) ≡ c
unfolding checks
checks_back (Ok u) = refl
checks_back (Err r) = ap Err (named_back r)

pub one_checked : (a b : Result (Unit {0}) Refusal) → number_of a ≡ number_of b → a ≡ b
one_checked a b e = sym (checks_back a) ∙ ap checks e ∙ checks_back b

-- 5: "parity odd"; 16: "spare bits not zero, .. after 5"; and no other word is refused
module _ (w : ℕ) where
  pub five : ones w % 2 ≡ 1 → number_of (checked_of w) ≡ 5 ∷ []
  unfolding checked_of even_of
  five odd = rw (ne_eqb (ones w % 2) 0 (λ z. omega (arith, odd)))

  pub sixteen : ones w % 2 ≡ 0 → 0 < spare_of w → number_of (checked_of w) ≡ 16 ∷ []
  unfolding checked_of even_of clear_of
  sixteen even set = rw (eq-eqb (ones w % 2) 0 even, ne_eqb (spare_of w) 0 (λ z. omega (arith, set)))

  pub unnumbered : ones w % 2 ≡ 0 → spare_of w ≡ 0 → number_of (checked_of w) ≡ []
  unfolding checked_of even_of clear_of
  unnumbered even clear = rw (eq-eqb (ones w % 2) 0 even, eq-eqb (spare_of w) 0 clear)
