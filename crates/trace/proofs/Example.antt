-- Lines of a trace, in ASCII: which of a frame's two numbers comes first (02, Ask 3), and that both 0 print nothing; a refusal's number, and the bytes of a
-- reply, so many of the room as are told.
-- Assumes nothing.
use mathlib.Core.Path.{◌≡◌, refl}
use mathlib.Core.List.{List, [], ◌∷◌, ◌++◌}
use Prim.Native.Nat.{ℕ}
use Rattle.text.specs.Text.{decimal_of, digits_in, hex_of}
use Rattle.promises.specs.declared.Told.TheVariants.{Reply, Outcome, Refused}
use Rattle.trace.specs.Lines.{unmeasured_of, straight_of, on_line, framed, in_hex, replied, outcome_of, refused_of, sent_of, told_of}

-- `7 sent 2 80190000`
abbrev frame : List ℕ
frame = 55 ∷ 32 ∷ 115 ∷ 101 ∷ 110 ∷ 116 ∷ 32 ∷ 50 ∷ 32 ∷ 56 ∷ 48 ∷ 49 ∷ 57 ∷ 48 ∷ 48 ∷ 48 ∷ 48 ∷ []

-- ` 18 23`
pub straight : sent_of 7 2 (record { word = 0x8019_0000; shortest = 18; longest = 23 }) ≡ frame ++ (32 ∷ 49 ∷ 56 ∷ 32 ∷ 50 ∷ 51 ∷ 10 ∷ [])
unfolding sent_of framed on_line straight_of unmeasured_of decimal_of digits_in hex_of
straight = refl

pub without : sent_of 7 2 (record { word = 0x8019_0000; shortest = 0; longest = 0 }) ≡ frame ++ (10 ∷ [])
unfolding sent_of framed on_line straight_of unmeasured_of decimal_of digits_in hex_of
without = refl

-- ` 0 7`
pub one_zero : sent_of 7 2 (record { word = 0x8019_0000; shortest = 0; longest = 7 }) ≡ frame ++ (32 ∷ 48 ∷ 32 ∷ 55 ∷ 10 ∷ [])
unfolding sent_of framed on_line straight_of unmeasured_of decimal_of digits_in hex_of
one_zero = refl

-- `7 refused 18`
pub number : told_of 7 0 (Refused 18) [] ≡ 55 ∷ 32 ∷ 114 ∷ 101 ∷ 102 ∷ 117 ∷ 115 ∷ 101 ∷ 100 ∷ 32 ∷ 49 ∷ 56 ∷ 10 ∷ []
unfolding told_of refused_of decimal_of digits_in
number = refl

-- `7 reply A05F`
abbrev said : List ℕ
said = 55 ∷ 32 ∷ 114 ∷ 101 ∷ 112 ∷ 108 ∷ 121 ∷ 32 ∷ 65 ∷ 48 ∷ 53 ∷ 70 ∷ []

pub said_at_once : told_of 7 0 (Reply 2) (0xA0 ∷ 0x5F ∷ 0xEE ∷ []) ≡ said ++ (10 ∷ [])
unfolding told_of replied in_hex decimal_of digits_in hex_of
said_at_once = refl

-- ` wait 12`
pub as_an_outcome : told_of 7 0 (Outcome 2 12) (0xA0 ∷ 0x5F ∷ 0xEE ∷ []) ≡ said ++ (32 ∷ 119 ∷ 97 ∷ 105 ∷ 116 ∷ 32 ∷ 49 ∷ 50 ∷ 10 ∷ [])
unfolding told_of outcome_of replied in_hex decimal_of digits_in hex_of
as_an_outcome = refl
