-- `trace::bytes` meets its contract: one byte more at a time.
-- Assumes nothing.
use Rattle.std.proofs.Common.{◌≡◌, ℕ, List, [], ◌∷◌, refl, sym, ◌∙◌, rules}
use Rattle.std.specs.List.{fold}
use Rattle.text.specs.declared.Text.{Text}
use Rattle.text.specs.Text.{puts, hex_of}
use Rattle.text.proofs.Puts.{puts_append}
use Rattle.trace.specs.Lines.{in_hex}
use Rattle.trace.proofs.bytes.Goals as goal

byte_put : Text → ℕ → Text
byte_put t b = puts t (hex_of 2 b)

in_turn : (t : Text) (s : List ℕ) → fold byte_put t s ≡ puts t (in_hex s)
unfolding byte_put puts in_hex
in_turn t [] = refl
in_turn t (b ∷ s) = in_turn (byte_put t b) s ∙ sym (puts_append t (hex_of 2 b) (in_hex s))

pub returns : goal.returns
unfolding byte_put
returns c = let each : c.fold.result ≡ fold byte_put c.args.t c.args.s.now = search rules in each ∙ in_turn c.args.t c.args.s.now
