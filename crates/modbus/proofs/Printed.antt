-- Unit 5, byte by byte: a body and the body of its reply at once, as 01 has them; and one whole message in either form. (For every body: proofs/Becomes;
-- the lines' replies: proofs/Answered; every message: proofs/Arrives.)
-- Assumes nothing.
use mathlib.Core.Path.{◌≡◌, refl}
use mathlib.Core.List.{List, [], ◌∷◌}
use Prim.Native.Nat.{ℕ}
use Rattle.places.specs.Bytes.{pair_at}
use Rattle.crc.specs.Crc.{crc_bits, crc_from, crc_of, sealed, passes_of}
use Rattle.modbus.specs.declared.MessageForm.{MessageForm}
use Rattle.modbus.specs.declared.MessageForm.TheVariants.{Serial, Tcp}
use Rattle.modbus.specs.declared.Reading.{Reading}
use Rattle.modbus.specs.declared.Reading.TheVariants.{Silent, AtOnce, Accepted}
use Rattle.modbus.specs.Shape.{read_formed, many_formed, both_formed, formed_of, request_fields}
use Rattle.modbus.specs.Mapping.{served_of, own_of, body_read}
use Rattle.modbus.specs.Wire.{body_of}
use Rattle.modbus.specs.Wrapping.{wrapping_of, reads, writes}

abbrev pub comes_back : Reading → List ℕ
comes_back (Silent n) = []
comes_back (AtOnce r) = body_of r
comes_back (Accepted o) = []

-- a request and its reply
pub record Entry : Type 0 where
  pub asks : List ℕ
  pub says : List ℕ

abbrev pub All : List Entry → Type 0
All [] = Unit
All (e ∷ es) = (comes_back (body_read e.asks) ≡ e.says) × All es

abbrev pub entry : List ℕ → List ℕ → Entry
entry b r = record { asks = b; says = r }

abbrev pub table : List Entry
table =
    -- "register 0076 reads 0100 (version 1.0); writing it, and every other register, is 02"
    entry (0x05 ∷ 0x03 ∷ 0x00 ∷ 0x76 ∷ 0x00 ∷ 0x01 ∷ []) (0x05 ∷ 0x03 ∷ 0x02 ∷ 0x01 ∷ 0x00 ∷ [])
    ∷ entry (0x05 ∷ 0x04 ∷ 0x00 ∷ 0x76 ∷ 0x00 ∷ 0x01 ∷ []) (0x05 ∷ 0x04 ∷ 0x02 ∷ 0x01 ∷ 0x00 ∷ [])
    ∷ entry (0x05 ∷ 0x06 ∷ 0x00 ∷ 0x76 ∷ 0x01 ∷ 0x00 ∷ []) (0x05 ∷ 0x86 ∷ 0x02 ∷ [])
    ∷ entry (0x05 ∷ 0x10 ∷ 0x00 ∷ 0x76 ∷ 0x00 ∷ 0x01 ∷ 0x02 ∷ 0x01 ∷ 0x00 ∷ []) (0x05 ∷ 0x90 ∷ 0x02 ∷ [])
    ∷ entry (0x05 ∷ 0x03 ∷ 0x00 ∷ 0x77 ∷ 0x00 ∷ 0x01 ∷ []) (0x05 ∷ 0x83 ∷ 0x02 ∷ [])
    ∷ entry (0x05 ∷ 0x03 ∷ 0x01 ∷ 0x76 ∷ 0x00 ∷ 0x01 ∷ []) (0x05 ∷ 0x83 ∷ 0x02 ∷ [])
    -- "Unit 5 serves 03, 04, 06, 10"
    ∷ entry (0x05 ∷ 0x17 ∷ 0x00 ∷ 0x76 ∷ 0x00 ∷ 0x01 ∷ 0x00 ∷ 0x76 ∷ 0x00 ∷ 0x00 ∷ 0x00 ∷ []) (0x05 ∷ 0x97 ∷ 0x01 ∷ [])
    ∷ entry (0x05 ∷ 0x41 ∷ 0x00 ∷ 0x76 ∷ 0x00 ∷ 0x00 ∷ 0x00 ∷ 0x00 ∷ []) (0x05 ∷ 0xC1 ∷ 0x01 ∷ [])
    ∷ []

pub printed : All table
unfolding pair_at served_of read_formed many_formed both_formed formed_of request_fields own_of body_read body_of
printed = (refl, (refl, (refl, (refl, (refl, (refl, (refl, (refl, tt))))))))

-- ---- a whole message in each form: the same body, and the same body of its reply

module _ (f : MessageForm) (s : List ℕ) where
  replied : Reading → List ℕ
  replied (Silent n) = []
  replied (AtOnce r) = writes (wrapping_of f) ((wrapping_of f).transaction s) r
  replied (Accepted o) = []

  pub goes_back : List ℕ
  goes_back = replied (reads (wrapping_of f) s)

pub printed_serial : goes_back Serial (0x05 ∷ 0x03 ∷ 0x00 ∷ 0x76 ∷ 0x00 ∷ 0x01 ∷ 0x64 ∷ 0x54 ∷ []) ≡ 0x05 ∷ 0x03 ∷ 0x02 ∷ 0x01 ∷ 0x00 ∷ 0x48 ∷ 0x14 ∷ []
unfolding pair_at served_of read_formed formed_of request_fields own_of body_read body_of reads writes goes_back replied passes_of sealed crc_of crc_from crc_bits
printed_serial = refl

-- transaction 1501; 6 bytes there, 5 back
pub printed_tcp : goes_back Tcp (0x15 ∷ 0x01 ∷ 0x00 ∷ 0x00 ∷ 0x00 ∷ 0x06 ∷ 0x05 ∷ 0x03 ∷ 0x00 ∷ 0x76 ∷ 0x00 ∷ 0x01 ∷ [])
    ≡ 0x15 ∷ 0x01 ∷ 0x00 ∷ 0x00 ∷ 0x00 ∷ 0x05 ∷ 0x05 ∷ 0x03 ∷ 0x02 ∷ 0x01 ∷ 0x00 ∷ []
unfolding pair_at served_of read_formed formed_of request_fields own_of body_read body_of reads writes goes_back replied
printed_tcp = refl
