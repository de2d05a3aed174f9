-- What a line begins with.
-- Assumes nothing.
use Rattle.std.proofs.Common.{◌≡◌, ◌∙◌, List, ℕ, false, length, take, nat_eq}
use Rattle.std.specs.Cmp.Lexicographic.{pointwise, nat_list_eq_equiv}
use Rattle.script.specs.Lines.{begins}

-- a word that `strip_prefix` doesn't find
pub other : (w s : List ℕ) → pointwise nat_eq (take (length w) s) w ≡ false → begins w s ≡ false
other w s e = nat_list_eq_equiv.symm w (take (length w) s) ∙ e
