-- Two answers with one verdict are equal, so what is said of the verdict is said of the answer: each is read back from it.
-- Assumes nothing.
use Rattle.std.specs.Prelude.{Result, Ok, Err}
use Rattle.refusals.specs.declared.Refusal.{Refusal}
use Rattle.refusals.proofs.Names.{named, named_back}
use mathlib.Core.Path.{◌≡◌, refl, sym, ap, ◌∙◌}
use mathlib.Core.Bool.{cond}
use Prim.Native.Nat.{ℕ}
use lib.Dec.{eqb}
use Rattle.modbus.specs.declared.QuestionType.{QuestionType}
use Rattle.modbus.specs.declared.QuestionType.TheVariants.{ReadData, WriteData, InvalidData}
use Rattle.modbus.specs.declared.Reading.{Reading}
use Rattle.modbus.specs.declared.Reading.TheVariants.{Silent, AtOnce, Accepted}
use Rattle.modbus.specs.declared.Reply.{Reply}
use Rattle.modbus.specs.declared.Reply.TheVariants.{Exception, Value, Offset, Zero, Whole}
use Rattle.modbus.specs.Mapping.{type_number}
use Rattle.modbus.specs.Numbers.{
  Verdict,
  refused,
  exception,
  two_value,
  offset_value,
  nought,
  offset_value_type,
  order,
  bytes,
  reply_verdict,
  reading_verdict,
  written_verdict,
}

unfoldable pub typed : ℕ → QuestionType
typed n = cond (eqb n 0) ReadData (cond (eqb n 1) WriteData InvalidData)

unfoldable pub reading : Verdict → Reading
reading (refused n) = Silent (named n)
reading (exception u f c) = AtOnce (Exception u f c)
reading (two_value u f v) = AtOnce (Value u f v)
reading (offset_value u f o v) = AtOnce (Offset u f o v)
reading (nought u f) = AtOnce (Zero u f)
reading (offset_value_type u o v t) = AtOnce (Whole u o v t)
reading (order l t i v a f o m) =
    Accepted (record { line = l; question = record { t = typed t; id = i; value = v; alone = a }; function = f; offset = o; form = m })
reading (bytes n) = Silent (named n)

typed_back : (t : QuestionType) → typed (type_number t) ≡ t
unfolding typed
typed_back ReadData = refl
typed_back WriteData = refl
typed_back InvalidData = refl

reply_back : (r : Reply) → reading (reply_verdict r) ≡ AtOnce r
unfolding reading
reply_back (Exception u f c) = refl
reply_back (Value u f v) = refl
reply_back (Offset u f o v) = refl
reply_back (Zero u f) = refl
reply_back (Whole u o v t) = refl

pub reading_back : (r : Reading) → reading (reading_verdict r) ≡ r
unfolding reading
reading_back (Silent r) = ap Silent (named_back r)
reading_back (AtOnce r) = reply_back r
reading_back (Accepted o) =
    ap (λ (t : QuestionType). Accepted (record {
      line = o.line;
      question = record { t = t; id = o.question.id; value = o.question.value; alone = o.question.alone };
      function = o.function;
      offset = o.offset;
      form = o.form;
    })) (typed_back o.question.t)

pub one_reading : (r s : Reading) → reading_verdict r ≡ reading_verdict s → r ≡ s
one_reading r s e = sym (reading_back r) ∙ ap reading e ∙ reading_back s

pub one_reply : (r s : Reply) → reply_verdict r ≡ reply_verdict s → r ≡ s
one_reply r s e = let same = one_reading (AtOnce r) (AtOnce s) e in cc

written : Verdict → Result ℕ Refusal
written (refused n) = Err (named n)
written (exception u f c) = Err (named c)
written (two_value u f v) = Err (named v)
written (offset_value u f o v) = Err (named v)
written (nought u f) = Err (named f)
written (offset_value_type u o v t) = Err (named v)
written (order l t i v a f o m) = Err (named v)
written (bytes n) = Ok n

written_back : (w : Result ℕ Refusal) → written (written_verdict w) ≡ w
unfolding written
written_back (Ok n) = refl
written_back (Err r) = ap Err (named_back r)

pub one_written : (v w : Result ℕ Refusal) → written_verdict v ≡ written_verdict w → v ≡ w
one_written v w e = sym (written_back v) ∙ ap written e ∙ written_back w
