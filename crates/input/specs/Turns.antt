-- A program's turns over its input: what one turn after the other said.
-- Assumes nothing: these are definitions.
use Rattle.std.specs.Prelude.{ℕ, Bool, true, [], ◌∷◌, ◌++◌, Ok, replicate}
use Rattle.std.specs.List.{FoldsTo}
use Rattle.std.specs.declared.result.Result.{Result}

-- n turns, and each said that there is more
abbrev pub Goes : {F E : Type 0} → (F → Result Bool E → F → Type 0) → F → ℕ → F → Type 0
Goes turns first n last = FoldsTo turns first (replicate n (Ok true)) last

-- the turn after these gave an answer of its own
abbrev pub Ends : {F E : Type 0} → (F → Result Bool E → F → Type 0) → F → ℕ → Result Bool E → F → Type 0
Ends turns first n answer last = FoldsTo turns first (replicate n (Ok true) ++ answer ∷ []) last
