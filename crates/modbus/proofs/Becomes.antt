-- Every body of bytes becomes what 01's order of checks makes of it, and nothing else; so it is an order exactly if it is a request by a row of
-- 01's table, and then that row's.
-- Assumes nothing.
use Prim.Native.Nat.{ℕ}
use mathlib.Core.Path.{◌≡◌, refl, sym, ap, ◌∙◌, subst}
use mathlib.Core.List.{List}
use native.Mathlib.Omega.{arith}
use Rattle.word.proofs.Clash.{clash}
use Rattle.modbus.specs.declared.Order.{Order}
use Rattle.modbus.specs.declared.Reading.{Reading}
use Rattle.modbus.specs.declared.Reading.TheVariants.{Accepted}
use Rattle.modbus.specs.Shape.{read_fields, write_fields}
use Rattle.modbus.specs.Mapping.{body_read}
use Rattle.modbus.specs.Numbers.{Verdict, reading_verdict}
use Rattle.modbus.specs.Table.{Request, Fits, body_of_request, asked_by}
use Rattle.modbus.specs.Becomes.{
  Bytes,
  Becomes,
  other_unit,
  high_function,
  not_served,
  not_spelled,
  unlike,
  unnamed_write,
  unnamed_both,
  high_byte,
  other_message,
  asks,
  version_03,
  version_04,
  other_03,
  other_04,
  own_06,
  own_10,
}
use Rattle.modbus.proofs.Checks as checks
use Rattle.modbus.proofs.Spelled.{out}
use Rattle.modbus.proofs.Total.{total}
use Rattle.modbus.proofs.Asked as read
use Rattle.modbus.proofs.Requests.{as_asked, on_write, on_both, on_41, unnamed_alone, unnamed_page, high_page, unnamed_message}

-- ---- what is said of a body is so

module _ (b : List ℕ) (h : Bytes b) where
  being : (s : List ℕ) {v : Verdict} → b ≡ s → reading_verdict (body_read s) ≡ v → reading_verdict (body_read b) ≡ v
  being s e is = ap (λ (l : List ℕ). reading_verdict (body_read l)) e ∙ is

  pub only : {v : Verdict} → Becomes b v → reading_verdict (body_read b) ≡ v
  only (other_unit u) = checks.thirteen b u
  only (high_function lo hi f) = checks.fourteen b lo hi f
  only (not_served to none) = checks.not_served b to none
  only (not_spelled to s none) = checks.not_formed b to s (λ form. none (out b h refl form))
  only (unlike u r w v on e other) =
      being _ e (ap reading_verdict (read.does_both_17 u on.0 on.1 r w v) ∙ checks.unlike u (read.sides 1 1 r w v) (omega arith) (omega arith) other)
  only (unnamed_write u r w v on e page) = being _ e (on_write u on.0 on.1 r w v ∙ unnamed_alone u r w v page)
  only (unnamed_both u o v on e page) = being _ e (on_both u on.0 on.1 o v ∙ unnamed_page u o v page)
  only (high_byte u o v m on e page) = being _ e (on_41 u on.0 on.1 o v m ∙ high_page u o v m page)
  only (other_message u o v m on e low n0 n1 n2) = being _ e (on_41 u on.0 on.1 o v m ∙ unnamed_message u o v m low n0 n1 n2)
  only (asks q fits e) = being _ e (as_asked q fits)
  only (version_03 e) = being _ e (ap reading_verdict (read.own_03 0x0076) ∙ checks.version (read_fields 0x03 0x0076) refl refl)
  only (version_04 e) = being _ e (ap reading_verdict (read.own_04 0x0076) ∙ checks.version (read_fields 0x04 0x0076) refl refl)
  only (other_03 o e other) = being _ e (ap reading_verdict (read.own_03 o) ∙ checks.own_other (read_fields 0x03 o) refl other)
  only (other_04 o e other) = being _ e (ap reading_verdict (read.own_04 o) ∙ checks.own_other (read_fields 0x04 o) refl other)
  only (own_06 o v e) = being _ e (ap reading_verdict (read.own_06 o v) ∙ checks.own_written (write_fields 0x06 o v 0) (λ z. omega arith))
  only (own_10 o v e) = being _ e (ap reading_verdict (read.own_10 o v) ∙ checks.own_written (write_fields 0x10 o v 0) (λ z. omega arith))

  -- and something is said of every one
  pub becomes : Becomes b (reading_verdict (body_read b))
  becomes = let some = total b h in subst (λ (v : Verdict). Becomes b v) (sym (only some.1)) some.1

-- ---- an order is a request by a row of the table

pub record Asked (b : List ℕ) (o : Order) : Type 0 where
  pub q : Request
  pub fits : Fits q
  pub body : b ≡ body_of_request q
  pub question : reading_verdict (Accepted o) ≡ asked_by q

module _ (b : List ℕ) (h : Bytes b) (o : Order) where
  pub asked : body_read b ≡ Accepted o → Asked b o
  asked e = go (subst (λ (r : Reading). Becomes b (reading_verdict r)) e (becomes b h)) refl
    where
      go : {v : Verdict} → Becomes b v → reading_verdict (Accepted o) ≡ v → Asked b o
      go (other_unit u) is = clash cc
      go (high_function lo hi f) is = clash cc
      go (not_served to none) is = clash cc
      go (not_spelled to s none) is = clash cc
      go (unlike u r w v on s other) is = clash cc
      go (unnamed_write u r w v on s page) is = clash cc
      go (unnamed_both u p v on s page) is = clash cc
      go (high_byte u p v m on s page) is = clash cc
      go (other_message u p v m on s low n0 n1 n2) is = clash cc
      go (asks q fits s) is = record { q = q; fits = fits; body = s; question = is }
      go (version_03 s) is = clash cc
      go (version_04 s) is = clash cc
      go (other_03 p s other) is = clash cc
      go (other_04 p s other) is = clash cc
      go (own_06 p v s) is = clash cc
      go (own_10 p v s) is = clash cc
