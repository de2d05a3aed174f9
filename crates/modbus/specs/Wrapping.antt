-- The two wrappings of messages and replies (01, 'Modbus'; 02, Ask 4): from a message's bytes to its body, and from a body to its bytes. Everything
-- behind them (checks, rows, outcomes, replies) speaks of bodies.
-- Assumes nothing: these are definitions.
use Rattle.refusals.specs.declared.Refusal.{Refusal}
use Rattle.refusals.specs.declared.Refusal.TheVariants.{WrongLength, WrongChecksum, NoSuchUnit, NoSuchFunction, WrongProtocol, WrongCount}
use Rattle.std.specs.Prelude.{ℕ, ◌-◌, List, [], ◌∷◌, ◌++◌, eqb, leb, length, drop, Result, Ok, Err}
use Rattle.word.specs.Checks.{Check, must, judged}
use Rattle.places.specs.Bytes.{pair_at, pair}
use Rattle.crc.specs.Crc.{passes_of, sealed, unsealed}
use Rattle.modbus.specs.declared.MessageForm.{MessageForm}
use Rattle.modbus.specs.declared.MessageForm.TheVariants.{Serial, Tcp}
use Rattle.modbus.specs.declared.Reading.{Reading}
use Rattle.modbus.specs.declared.Reading.TheVariants.{Silent}
use Rattle.modbus.specs.declared.Reply.{Reply}
use Rattle.modbus.specs.Mapping.{body_read}
use Rattle.modbus.specs.Wire.{body_of, placed, room_checks}

pub record Wrapping : Type 0 where
  -- what must hold of a message before its body is looked at, and with which refusals it stays silent where it doesn't
  pub checks : List ℕ → List (Check Refusal)
  pub silences : List Refusal
  -- what its reply brings back, and the body: unit, function, data
  pub transaction : List ℕ → ℕ
  pub body : List ℕ → List ℕ
  -- and back: a transaction and a body
  pub wraps : ℕ → List ℕ → List ℕ

-- "Order of checks: length 4 to 256; checksum;" and then those of the body. A serial message has no transaction
abbrev pub serial_checks : List ℕ → List (Check Refusal)
serial_checks s = must WrongLength (leb 4 (length s)) ∷ must WrongLength (leb (length s) 256) ∷ must WrongChecksum (passes_of s) ∷ []

abbrev pub serial : Wrapping
serial = record { checks = serial_checks; silences = WrongLength ∷ WrongChecksum ∷ []; transaction = λ s. 0; body = unsealed; wraps = λ t b. sealed b }

-- "11 reads 8 to 260; 17, protocol not 0; 18, length not what was handed over; in that order in place of 12"
abbrev pub tcp_checks : List ℕ → List (Check Refusal)
tcp_checks s =
    must WrongLength (leb 8 (length s))
    ∷ must WrongLength (leb (length s) 260)
    ∷ must WrongProtocol (eqb (pair_at s 2) 0)
    ∷ must WrongCount (eqb (pair_at s 4) (length s - 6))
    ∷ []

-- "transaction (2 bytes, echoed), protocol (2 bytes, 0), length (2 bytes, unit and what follows), unit, function and data, no checksum"
abbrev pub headed : ℕ → List ℕ → List ℕ
headed t b = pair t (pair 0 (pair (length b) b))

abbrev pub tcp : Wrapping
tcp = record { checks = tcp_checks; silences = WrongLength ∷ WrongProtocol ∷ WrongCount ∷ []; transaction = λ s. pair_at s 0; body = λ s. drop 6 s; wraps = headed }

-- "A box has either the serial or the TCP form."
abbrev pub wrapping_of : MessageForm → Wrapping
wrapping_of Serial = serial
wrapping_of Tcp = tcp

-- what becomes of a message, and with which refusals it stays silent: the wrapping's own, and then the body's
unfoldable pub reads : Wrapping → List ℕ → Reading
reads W s = judged (W.checks s) Silent (body_read (W.body s))

abbrev pub silences_of : Wrapping → List Refusal
silences_of W = W.silences ++ (NoSuchUnit ∷ NoSuchFunction ∷ [])

-- all of a reply's bytes, with the transaction of the message that it answers
unfoldable pub writes : Wrapping → ℕ → Reply → List ℕ
writes W t r = W.wraps t (body_of r)

unfoldable pub reply_written : Wrapping → ℕ → Reply → List ℕ → Result ℕ Refusal
reply_written W t r room = judged (room_checks room) Err (Ok (length (writes W t r)))

unfoldable pub reply_room : Wrapping → ℕ → Reply → List ℕ → List ℕ
reply_room W t r room = judged (room_checks room) (λ refusal. room) (placed (writes W t r) room)
