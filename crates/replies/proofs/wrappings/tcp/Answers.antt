-- `replies::wrappings::tcp` meets its contract: the body behind six bytes, and these in front of it.
-- Assumes nothing.
use Rattle.std.proofs.Common.{ℕ, ◌-◌, ◌/◌, ◌%◌, ◌<◌, ◌≡◌, List, [], ◌∷◌, refl, ap, ◌∙◌, arith, length, get_or}
use borrow.Rule.Slice.PartMut.{put_mid}
use Rattle.modbus.specs.Wire.{body_of, placed}
use Rattle.modbus.proofs.Place.{behind_head}
use Rattle.modbus.proofs.Replies.{short_body}
use Rattle.replies.proofs.wrappings.tcp.Goals as goal

-- the six bytes, of what the library gives of the transaction and of the length
head_is : (t m : List ℕ) (v n : ℕ) → v < 65536 → n < 256 → t ≡ v / 256 % 256 ∷ v % 256 ∷ [] → m ≡ n / 256 % 256 ∷ n % 256 ∷ [] →
    get_or t 0 0 ∷ get_or t 1 0 ∷ 0 ∷ 0 ∷ get_or m 0 0 ∷ get_or m 1 0 ∷ [] ≡ v / 256 ∷ v % 256 ∷ 0 ∷ 0 ∷ n / 256 ∷ n % 256 ∷ []
head_is t m v n hv hn et em =
    let high : v / 256 % 256 ≡ v / 256 = omega arith in
    let none : n / 256 % 256 ≡ n / 256 = omega arith in
    rw (et, em, high, none)

pub returns : goal.returns
returns c =
    let a = c.args in
    let b = body_of a.reply in
    let n = c.put-n.result in
    let room = a.room.now in
    let short = short_body a.reply in
    let small : n < 256 = omega (arith, c.put-n.ensures.0) in
    let head = head_is c.to_be_bytes.result c.to_be_bytes-2.result a.transaction n c.ranges.transaction.fits small c.to_be_bytes.ensures c.to_be_bytes-2.ensures in
    let counted = ap (λ (m : ℕ). a.transaction / 256 ∷ a.transaction % 256 ∷ 0 ∷ 0 ∷ m / 256 ∷ m % 256 ∷ []) c.put-n.ensures.0 in (
      omega (arith, c.place.ensures.0, c.put-n.ensures.0),
      behind_head 6 (a.transaction / 256 ∷ a.transaction % 256 ∷ 0 ∷ 0 ∷ length b / 256 ∷ length b % 256 ∷ []) b room c.put-n.new.room c.place.new.room refl
          c.put-n.ensures.1
          (c.place.ensures.1 ∙ ap (λ (h : List ℕ). placed h (put_mid 6 (length room - 6) room c.put-n.new.room)) (head ∙ counted))
          (omega (arith, c.requires)),
    )
