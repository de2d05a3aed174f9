-- The 16 bits of a typed value, or the number of the refusal, in 01's numbers alone. Nothing is lost (`one_back`, proofs/Trip).
-- Assumes nothing: these are definitions.
use Rattle.std.specs.Prelude.{ℕ, Result, Ok, Err}
use Rattle.refusals.specs.declared.Refusal.{Refusal}
use Rattle.refusals.specs.Numbers.{number_of}
use Rattle.word.specs.Numbers.{Valued, valued, refused}

abbrev pub back_value : Result ℕ Refusal → Valued
back_value (Ok raw) = valued raw
back_value (Err n) = refused (number_of n)
