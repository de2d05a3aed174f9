-- The typed value of 16 data bits by its kind, and the 16 bits of a typed value (01, 'Data values').
-- Assumes nothing: these are definitions.
use Rattle.refusals.specs.declared.Refusal.{Refusal}
use Rattle.std.specs.Prelude.{◌≡◌, ℕ, ◌+◌, ◌*◌, ◌/◌, ◌%◌, Result, Ok}
use Rattle.std.specs.Int.{w8, w16, cast_unsigned}
use Rattle.ids.specs.declared.Kind.TheVariants as kind
use Rattle.ids.specs.declared.Kind.{Kind}
use Rattle.ids.specs.Signed.{signed16, signed8}
use Rattle.values.specs.Real.{real_of, BackOf}
use Rattle.values.specs.declared.Typed.{Typed}
use Rattle.values.specs.declared.Typed.TheVariants.{Real, S16, U16, Pair, SPair, Raw}

-- A pair has its high byte first.
unfoldable pub read_as : Kind → ℕ → Typed
read_as kind.Real raw = Real (real_of raw)
read_as kind.S16 raw = S16 (signed16 raw)
read_as kind.U16 raw = U16 raw
read_as kind.Pair raw = Pair (raw / 256) (raw % 256)
read_as kind.SPair raw = SPair (signed8 (raw / 256)) (signed8 (raw % 256))
read_as kind.Raw raw = Raw raw

-- "Each typed value turns back into its 16 bits": `cast_unsigned w16 z` is the number of 16 bits that is z as signed, and `cast_unsigned w8` of 8
abbrev pub BitsOf : Typed → Result ℕ Refusal → Type 0
BitsOf (Real x) r = BackOf x r
BitsOf (S16 z) r = r ≡ Ok (cast_unsigned w16 z)
BitsOf (U16 n) r = r ≡ Ok n
BitsOf (Pair h l) r = r ≡ Ok (h * 256 + l)
BitsOf (SPair h l) r = r ≡ Ok (cast_unsigned w8 h * 256 + cast_unsigned w8 l)
BitsOf (Raw n) r = r ≡ Ok n
