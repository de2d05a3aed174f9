-- What becomes of each message of bytes, in either form (01, 'Modbus', "Order of checks"; 02, Ask 4), byte by byte and in their words alone: no wrapping
-- is known here.
-- Assumes nothing: these are definitions.
use Rattle.std.specs.Prelude.{ℕ, ◌+◌, ◌*◌, ◌≤◌, ◌<◌, ◌≡◌, List, ◌∷◌, length, get_or}
use Rattle.crc.specs.Crc.{sealed}
use Rattle.modbus.specs.declared.MessageForm.{MessageForm}
use Rattle.modbus.specs.declared.MessageForm.TheVariants.{Serial, Tcp}
use Rattle.modbus.specs.Numbers.{Verdict, refused}
use Rattle.modbus.specs.Becomes.{Becomes}

pub data Arrives (s : List ℕ) : MessageForm → Verdict → Type 0 where
  -- "length 4 to 256; checksum"
  serial_short : length s < 4 → Arrives s Serial (refused 11)
  serial_long : 256 < length s → Arrives s Serial (refused 11)
  serial_broken : 4 ≤ length s → length s ≤ 256 → ((b : List ℕ) → s ≡ sealed b → ⊥) → Arrives s Serial (refused 12)
  -- and then what its body does
  serial_body : (b : List ℕ) {v : Verdict} → 2 ≤ length b → length b ≤ 254 → s ≡ sealed b → Becomes b v → Arrives s Serial v
  -- "Messages are 8 to 260 bytes."
  tcp_short : length s < 8 → Arrives s Tcp (refused 11)
  tcp_long : 260 < length s → Arrives s Tcp (refused 11)
  -- "17, protocol not 0"
  tcp_protocol : 8 ≤ length s → length s ≤ 260 → (get_or s 2 0 ≡ 0 → get_or s 3 0 ≡ 0 → ⊥) → Arrives s Tcp (refused 17)
  -- "18, length not what was handed over": "unit and what follows" come behind six bytes
  tcp_length : 8 ≤ length s → length s ≤ 260 → get_or s 2 0 ≡ 0 → get_or s 3 0 ≡ 0 → (6 + (256 * get_or s 4 0 + get_or s 5 0) ≡ length s → ⊥) →
      Arrives s Tcp (refused 18)
  -- "transaction (2 bytes, ..), protocol (2 bytes, 0), length (2 bytes, ..), unit, function and data", and then what its body does
  tcp_body : (high low : ℕ) (b : List ℕ) {v : Verdict} → 2 ≤ length b → length b ≤ 254 → s ≡ high ∷ low ∷ 0 ∷ 0 ∷ 0 ∷ length b ∷ b → Becomes b v →
      Arrives s Tcp v
