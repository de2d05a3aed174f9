-- Lines in ASCII, and what they say: which of a frame's two numbers is which (02, Ask 3), and that one alone is none; which form a new box has (02, Ask 4).
-- Assumes nothing.
use mathlib.Core.Path.{◌≡◌, refl}
use mathlib.Core.List.{List, [], ◌∷◌, ◌++◌}
use Prim.Native.Nat.{ℕ}
use Rattle.places.specs.Bytes.{pair_at, word_at}
use Rattle.modbus.specs.declared.MessageForm.TheVariants.{Serial, Tcp}
use Rattle.script.specs.declared.Event.TheVariants.{Wrong, Thermostat, Boiler, Fresh}
use Rattle.script.specs.Digits.{decimal_from, bounded_from, bounded_of, digit_of, pairs_of, fits, fitting, hex_word_of}
use Rattle.script.specs.Frames.{first_of, rest_of, span_of, behind_of, framing_of}
use Rattle.script.specs.Lines.{thermostat, boiler, frame_line, alone_of, plain_line}

-- `2 80190000`
abbrev frame : List ℕ
frame = 50 ∷ 32 ∷ 56 ∷ 48 ∷ 49 ∷ 57 ∷ 48 ∷ 48 ∷ 48 ∷ 48 ∷ []

-- ` 18`, ` 23`
abbrev smallest : List ℕ
smallest = 32 ∷ 49 ∷ 56 ∷ []

abbrev largest : List ℕ
largest = 32 ∷ 50 ∷ 51 ∷ []

-- `thermostat 2 80190000 18 23`
pub straight : plain_line (thermostat ++ (frame ++ (smallest ++ largest))) ≡ Thermostat 2 (record { word = 0x8019_0000; shortest = 18; longest = 23 })
unfolding plain_line frame_line first_of rest_of framing_of behind_of span_of bounded_of bounded_from decimal_from hex_word_of fitting fits digit_of pairs_of
    word_at pair_at
straight = refl

-- `boiler 2 80190000`
pub without : plain_line (boiler ++ frame) ≡ Boiler 2 (record { word = 0x8019_0000; shortest = 0; longest = 0 })
unfolding plain_line frame_line first_of rest_of framing_of behind_of span_of bounded_of bounded_from decimal_from hex_word_of fitting fits digit_of pairs_of
    word_at pair_at
without = refl

-- `boiler 2 80190000 18`
pub one_alone : plain_line (boiler ++ (frame ++ smallest)) ≡ Wrong
unfolding plain_line frame_line first_of rest_of framing_of behind_of span_of bounded_of bounded_from decimal_from hex_word_of fitting fits digit_of pairs_of
    word_at pair_at
one_alone = refl

-- `fresh `
abbrev fresh : List ℕ
fresh = 102 ∷ 114 ∷ 101 ∷ 115 ∷ 104 ∷ 32 ∷ []

-- `fresh serial`
pub a_serial_box : plain_line (fresh ++ (115 ∷ 101 ∷ 114 ∷ 105 ∷ 97 ∷ 108 ∷ [])) ≡ Fresh Serial
unfolding plain_line alone_of
a_serial_box = refl

-- `fresh tcp`, and with one more byte
pub a_tcp_box : plain_line (fresh ++ (116 ∷ 99 ∷ 112 ∷ [])) ≡ Fresh Tcp
unfolding plain_line alone_of
a_tcp_box = refl

pub not_a_box : plain_line (fresh ++ (116 ∷ 99 ∷ 112 ∷ 32 ∷ [])) ≡ Wrong
unfolding plain_line alone_of
not_a_box = refl
