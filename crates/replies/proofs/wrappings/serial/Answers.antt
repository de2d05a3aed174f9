-- `replies::wrappings::serial` meets its contract: the body in front, and its checksum behind it.
-- Assumes nothing.
use Rattle.std.proofs.Common.{ℕ, ◌-◌, ◌/◌, ◌%◌, ◌<◌, ◌≡◌, List, [], ◌∷◌, sym, ap, ◌∙◌, arith, length, take, drop}
use Rattle.std.proofs.Math.Seq.{take_at}
use Rattle.crc.specs.Crc.{crc_of, low_first, sealed}
use Rattle.crc.proofs.Sealed.{length_sealed}
use Rattle.modbus.specs.Wire.{body_of, placed}
use Rattle.modbus.proofs.Place.{behind_body}
use Rattle.replies.proofs.wrappings.serial.Goals as goal

-- the checksum's two bytes, as the library gives them
low_first_is : (l : List ℕ) (c d : ℕ) → c < 65536 → l ≡ c % 256 ∷ c / 256 % 256 ∷ [] → c ≡ d → l ≡ low_first d
low_first_is l c d h e is = let high : c / 256 % 256 ≡ c / 256 = omega arith in e ∙ rw (high, is)

pub returns : goal.returns
unfolding sealed
returns c =
    let a = c.args in
    let b = body_of a.reply in
    let n = c.put-n.result in
    let last = c.put-n.new.room in
    let front : take n last ≡ b = ap (take n) c.put-n.ensures.1 ∙ take_at b (drop (length b) a.room.now) n (sym c.put-n.ensures.0) in
    let checksum : c.to_le_bytes.result ≡ low_first (crc_of b) =
    low_first_is c.to_le_bytes.result c.checksum-checksum.result (crc_of b) c.checksum-checksum.type_inv c.to_le_bytes.ensures (c.checksum-checksum.ensures ∙ ap crc_of front) in (
      omega (arith, c.place.ensures.0, c.put-n.ensures.0, length_sealed b),
      behind_body b (low_first (crc_of b)) a.room.now last c.place.new.room n c.put-n.ensures.0 c.put-n.ensures.1
          (c.place.ensures.1 ∙ ap (λ (d : List ℕ). placed d (take (length last - n) (drop n last))) checksum),
    )
