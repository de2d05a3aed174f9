-- The order of checks, for every message in either form, in 01's words and 02's (Ask 4): where a check fails and those before it hold, its answer is given,
-- whatever fails after it. And a small room is refused and stays.
-- Assumes nothing.
use Rattle.std.specs.Prelude.{Ok, Err}
use Rattle.refusals.specs.declared.Refusal.{Refusal}
use Rattle.refusals.specs.declared.Refusal.TheVariants.{ShortRoom}
use Rattle.refusals.specs.Numbers.{number_of}
use mathlib.Core.Path.{◌≡◌, refl, ap, ◌∙◌}
use mathlib.Core.Logic.{◌⊎◌, inl, inr}
use mathlib.Core.Bool.{Bool, true, false, cond, not, ◌&&◌}
use mathlib.Core.List.{List}
use Prim.Native.Nat.{ℕ, ◌+◌, ◌-◌, ◌≤◌, ◌<◌}
use native.Mathlib.Omega.{arith}
use borrow.Author.Tests.{le-leb, lt-leb, le-ltb, lt-ltb, eq-eqb, ne_eqb, eqb-false}
use lib.Dec.{eqb}
use lib.ListN.{length}
use Rattle.word.specs.Checks.{Check, judged, Fails, here, later, Passes, none, all}
use Rattle.word.proofs.Checks.{refuses, goes_on}
use Rattle.crc.specs.Crc.{passes_of}
use Rattle.places.specs.Bytes.{pair_at}
use Rattle.modbus.specs.declared.Reading.{Reading}
use Rattle.modbus.specs.declared.Reading.TheVariants.{Silent, AtOnce}
use Rattle.modbus.specs.declared.Reply.{Reply}
use Rattle.modbus.specs.declared.Reply.TheVariants.{Value}
use Rattle.modbus.specs.declared.shape.Fields.{Fields}
use Rattle.modbus.specs.Shape.{unit_of, function_of, request_fields}
use Rattle.modbus.specs.Mapping.{
  mapping_rows,
  first_of,
  at_once,
  found_as,
  unlike_of,
  offset_checks,
  mapped_of,
  own_checks,
  own_of,
  silent_checks,
  form_checks,
  body_said,
  form_read,
  body_read,
}
use Rattle.modbus.specs.Becomes.{Addressed, Serves}
use Rattle.modbus.specs.Numbers.{refused, exception, two_value, bytes, reading_verdict, written_verdict}
use Rattle.modbus.specs.Wire.{placed, room_checks}
use Rattle.modbus.specs.Wrapping.{Wrapping, serial, tcp, reads, writes, reply_written, reply_room}
use Rattle.modbus.proofs.Served.{serves, unserved}
use Rattle.modbus.proofs.Formed.{RightForm, formed, unformed}

-- a check of the list fails and none before it: silence, or an exception, with its number
silence : (cs : List (Check Refusal)) (next : Reading) {r : Refusal} → Fails cs r → reading_verdict (judged cs Silent next) ≡ refused (number_of r)
silence cs next f = ap reading_verdict (refuses Silent next f)

excepted : (u f : ℕ) (cs : List (Check ℕ)) (next : Reading) {n : ℕ} → Fails cs n → reading_verdict (judged cs (at_once u f) next) ≡ exception u f n
excepted u f cs next fails = ap reading_verdict (refuses (at_once u f) next fails)

-- "length 4 to 256; checksum"
module _ (s : List ℕ) where
  refuses_with : (W : Wrapping) {r : Refusal} → Fails (W.checks s) r → reading_verdict (reads W s) ≡ refused (number_of r)
  unfolding reads
  refuses_with W f = silence (W.checks s) (body_read (W.body s)) f

  pub eleven : (length s < 4) ⊎ (256 < length s) → reading_verdict (reads serial s) ≡ refused 11
  eleven (inl short) = refuses_with serial (here (lt-leb 4 (length s) short))
  eleven (inr long) = refuses_with serial (later (le-leb 4 (length s) (omega arith)) (here (lt-leb (length s) 256 long)))

  pub twelve : 4 ≤ length s → length s ≤ 256 → passes_of s ≡ false → reading_verdict (reads serial s) ≡ refused 12
  twelve from upto other = refuses_with serial (later (le-leb 4 (length s) from) (later (le-leb (length s) 256 upto) (here other)))

  -- "11 reads 8 to 260; 17, protocol not 0; 18, length not what was handed over"
  pub eleven_tcp : (length s < 8) ⊎ (260 < length s) → reading_verdict (reads tcp s) ≡ refused 11
  eleven_tcp (inl short) = refuses_with tcp (here (lt-leb 8 (length s) short))
  eleven_tcp (inr long) = refuses_with tcp (later (le-leb 8 (length s) (omega arith)) (here (lt-leb (length s) 260 long)))

  pub seventeen : 8 ≤ length s → length s ≤ 260 → (pair_at s 2 ≡ 0 → ⊥) → reading_verdict (reads tcp s) ≡ refused 17
  seventeen from upto other =
      refuses_with tcp (later (le-leb 8 (length s) from) (later (le-leb (length s) 260 upto) (here (ne_eqb (pair_at s 2) 0 other))))

  pub eighteen : 8 ≤ length s → length s ≤ 260 → pair_at s 2 ≡ 0 → (6 + pair_at s 4 ≡ length s → ⊥) → reading_verdict (reads tcp s) ≡ refused 18
  eighteen from upto zero other =
      refuses_with tcp
      (later (le-leb 8 (length s) from)
      (later (le-leb (length s) 260 upto)
      (later (eq-eqb (pair_at s 2) 0 zero) (here (ne_eqb (pair_at s 4) (length s - 6) (λ is. other (omega arith)))))))

-- "unit 1 to 5; function below 80"
module _ (b : List ℕ) where
  pub thirteen : (unit_of b < 1) ⊎ (5 < unit_of b) → reading_verdict (body_read b) ≡ refused 13
  unfolding body_read
  thirteen (inl low) = silence (silent_checks b) (form_read b) (here (lt-leb 1 (unit_of b) low))
  thirteen (inr high) =
      silence (silent_checks b) (form_read b) (later (le-leb 1 (unit_of b) (omega arith)) (here (lt-leb (unit_of b) 5 high)))

  pub fourteen : 1 ≤ unit_of b → unit_of b ≤ 5 → 0x80 ≤ function_of b → reading_verdict (body_read b) ≡ refused 14
  unfolding body_read
  fourteen from upto high =
      silence (silent_checks b) (form_read b)
      (later (le-leb 1 (unit_of b) from) (later (le-leb (unit_of b) 5 upto) (here (le-ltb (function_of b) 0x80 high))))

  addressed : Addressed b → Passes (silent_checks b)
  addressed p = all (le-leb 1 (unit_of b) p.from) (all (le-leb (unit_of b) 5 p.upto) (all (lt-ltb (function_of b) 0x80 p.below) none))

  heard : Addressed b → reading_verdict (body_read b) ≡ reading_verdict (form_read b)
  unfolding body_read
  heard p = ap reading_verdict (goes_on Silent (form_read b) (addressed p))

  -- "function served (else exception 01); exact length and byte count, then counts (03)"
  pub not_served : Addressed b → (Serves (unit_of b) (function_of b) → ⊥) → reading_verdict (body_read b) ≡ exception (unit_of b) (function_of b) 0x01
  not_served p other = heard p ∙ excepted (unit_of b) (function_of b) (form_checks b) (body_said b) (here (unserved (unit_of b) (function_of b) other))

  pub not_formed : Addressed b → Serves (unit_of b) (function_of b) → (RightForm b (function_of b) → ⊥) →
      reading_verdict (body_read b) ≡ exception (unit_of b) (function_of b) 0x03
  not_formed p served other = heard p ∙ excepted (unit_of b) (function_of b) (form_checks b) (body_said b) (later (serves served) (here (unformed b served other)))

-- those have passed
pub record Formed (b : List ℕ) : Type 0 where
  pub to : Addressed b
  pub served : Serves (unit_of b) (function_of b)
  pub form : RightForm b (function_of b)

module _ (b : List ℕ) (p : Formed b) where
  said : body_read b ≡ body_said b
  unfolding body_read
  said =
      goes_on Silent (form_read b) (addressed b p.to) ∙ goes_on (at_once (unit_of b) (function_of b)) (body_said b) {cs = form_checks b}
      (all (serves p.served) (all (formed b p.form) none))

  by_unit : (five : Bool) → eqb (unit_of b) 5 ≡ five →
      body_read b ≡ cond five (own_of (request_fields (function_of b) b)) (mapped_of (unit_of b) (request_fields (function_of b) b))
  by_unit five e = said ∙ ap (λ (t : Bool). cond t (own_of (request_fields (function_of b) b)) (mapped_of (unit_of b) (request_fields (function_of b) b))) e

  pub by_rows : (unit_of b ≡ 5 → ⊥) → body_read b ≡ mapped_of (unit_of b) (request_fields (function_of b) b)
  by_rows other = by_unit false (ne_eqb (unit_of b) 5 other)

  -- "Unit 5 serves .. at once and never makes an order"
  pub by_itself : unit_of b ≡ 5 → body_read b ≡ own_of (request_fields (function_of b) b)
  by_itself five = by_unit true (eq-eqb (unit_of b) 5 five)

-- "register 0076 reads 0100 (version 1.0); writing it, and every other register, is 02"
module _ (a : Fields) where
  pub version : a.reads ≡ 1 → a.from ≡ 0x0076 → reading_verdict (own_of a) ≡ two_value 5 a.function 0x0100
  unfolding own_of
  version one is =
      ap reading_verdict
      (goes_on (at_once 5 a.function) (AtOnce (Value 5 a.function 0x0100)) {cs = own_checks a}
      (all (eq-eqb a.reads 1 one) (all (eq-eqb a.from 0x0076 is) none)))

  pub own_written : (a.reads ≡ 1 → ⊥) → reading_verdict (own_of a) ≡ exception 5 a.function 0x02
  unfolding own_of
  own_written other = excepted 5 a.function (own_checks a) (AtOnce (Value 5 a.function 0x0100)) (here (ne_eqb a.reads 1 other))

  pub own_other : a.reads ≡ 1 → (a.from ≡ 0x0076 → ⊥) → reading_verdict (own_of a) ≡ exception 5 a.function 0x02
  unfolding own_of
  own_other one other = excepted 5 a.function (own_checks a) (AtOnce (Value 5 a.function 0x0100))
      (later (eq-eqb a.reads 1 one) (here (ne_eqb a.from 0x0076 other)))

-- "offset (02)", before any row is looked up
module _ (u : ℕ) (a : Fields) where
  -- "For 17 with both, the two offsets are equal (else 02)"
  pub unlike : 1 ≤ a.reads → 1 ≤ a.writes → (a.from ≡ a.to → ⊥) → reading_verdict (mapped_of u a) ≡ exception u a.function 0x02
  unfolding mapped_of unlike_of
  unlike r w other =
      excepted u a.function (offset_checks a) (found_as u a (first_of mapping_rows a))
      (here (rw (ne_eqb a.reads 0 (λ z. omega arith), ne_eqb a.writes 0 (λ z. omega arith), ne_eqb a.from a.to other)))

  module _ (alike : 1 ≤ a.reads → 1 ≤ a.writes → a.from ≡ a.to) where
    even_so : unlike_of a ≡ false
    unfolding unlike_of
    even_so = go (eqb a.reads 0) (eqb a.writes 0) refl refl
      where
        go : (r w : Bool) → eqb a.reads 0 ≡ r → eqb a.writes 0 ≡ w → (not r && (not w && not (eqb a.from a.to))) ≡ false
        go true w er ew = refl
        go false true er ew = refl
        go false false er ew =
            let r = eqb-false a.reads 0 er in
            let w = eqb-false a.writes 0 ew in
            rw (eq-eqb a.from a.to (alike (omega (arith, r)) (omega (arith, w))))

    -- and what comes then is the rows'
    pub found : mapped_of u a ≡ found_as u a (first_of mapping_rows a)
    unfolding mapped_of
    found = goes_on (at_once u a.function) (found_as u a (first_of mapping_rows a)) {cs = offset_checks a} (all (ap not even_so) none)

-- refusal 15: "lent room below 16 bytes (reply)", and "every lent byte stay[s]"
module _ (W : Wrapping) (t : ℕ) (r : Reply) (room : List ℕ) where
  pub fifteen : length room < 16 → (written_verdict (reply_written W t r room) ≡ refused 15) × (reply_room W t r room ≡ room)
  unfolding reply_written reply_room
  fifteen low =
      let small : Fails (room_checks room) ShortRoom = here (lt-leb 16 (length room) low) in
      (ap written_verdict (refuses Err (Ok (length (writes W t r))) small), refuses (λ refusal. room) (placed (writes W t r) room) small)

  -- and 16 bytes are enough
  pub sixteen : 16 ≤ length room → written_verdict (reply_written W t r room) ≡ bytes (length (writes W t r))
  unfolding reply_written
  sixteen h = ap written_verdict (goes_on Err (Ok (length (writes W t r))) (all (le-leb _ (length room) (omega (arith, h))) none))
