-- The answers of this crate in 01's numbers alone: a value, the number of a refusal, or none. Nothing is lost: two answers that are the same so
-- are equal (proofs/Numbers).
-- Assumes nothing: these are definitions.
use Rattle.refusals.specs.declared.Refusal.{Refusal}
use Rattle.refusals.specs.Numbers as refusals
use Rattle.std.specs.Prelude.{ℕ, List, [], ◌∷◌, Result, Ok, Err}

pub data Valued : Type 0 where
  valued : (v : ℕ) → Valued
  refused : (number : ℕ) → Valued

-- a word that is written: itself, or 6
abbrev pub built_value : Result ℕ Refusal → Valued
built_value (Ok w) = valued w
built_value (Err r) = refused (refusals.number_of r)

-- a word that a line looks at: 5 or 16, or no number
abbrev pub number_of : Result (Unit {0}) Refusal → List ℕ
number_of (Ok u) = []
number_of (Err r) = refusals.number_of r ∷ []
