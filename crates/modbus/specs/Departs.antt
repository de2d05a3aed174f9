-- The bytes of a reply in either form (01, 'Modbus'; 02, Ask 4), from its body and the message that it answers, byte by byte: no wrapping is known here.
-- Assumes nothing: these are definitions.
use Rattle.std.specs.Prelude.{ℕ, List, ◌∷◌, length, get_or}
use Rattle.crc.specs.Crc.{sealed}
use Rattle.modbus.specs.declared.MessageForm.{MessageForm}
use Rattle.modbus.specs.declared.MessageForm.TheVariants.{Serial, Tcp}

-- "transaction (2 bytes, echoed), protocol (2 bytes, 0), length (2 bytes, unit and what follows), unit, function and data, no checksum"
abbrev pub in_form : MessageForm → List ℕ → List ℕ → List ℕ
in_form Serial s b = sealed b
in_form Tcp s b = get_or s 0 0 ∷ get_or s 1 0 ∷ 0 ∷ 0 ∷ 0 ∷ length b ∷ b
