-- What a box of either form tells and writes at once, byte by byte: from what becomes of every message of bytes, and from the bytes of a reply.
-- Assumes nothing.
use Prim.Native.Nat.{ℕ}
use mathlib.Core.Path.{◌≡◌, refl, ap, ◌∙◌, subst}
use mathlib.Core.List.{List, []}
use Rattle.refusals.specs.Numbers.{number_of}
use Rattle.word.proofs.Clash.{clash}
use Rattle.modbus.specs.declared.MessageForm.{MessageForm}
use Rattle.modbus.specs.declared.Reading.{Reading}
use Rattle.modbus.specs.declared.Reading.TheVariants as reading
use Rattle.modbus.specs.declared.Reply.{Reply}
use Rattle.modbus.specs.declared.Reply.TheVariants.{Exception, Value, Offset, Zero, Whole}
use Rattle.modbus.specs.Numbers.{reading_verdict, reply_verdict}
use Rattle.modbus.specs.Numbers as verdict
use Rattle.modbus.specs.Becomes.{Bytes}
use Rattle.modbus.specs.Arrives.{Arrives}
use Rattle.modbus.specs.Departs.{in_form}
use Rattle.modbus.specs.Wire.{body_of}
use Rattle.modbus.specs.Wrapping.{wrapping_of, reads}
use Rattle.modbus.proofs.Arrives.{only}
use Rattle.modbus.proofs.Verdicts.{one_reading}
use Rattle.modbus.proofs.Wrapping.{lawful}
use Rattle.modbus.proofs.Answered.{as_excepted}
use Rattle.modbus.proofs.Departs.{written}
use Rattle.promises.specs.Inputs.{Inputs, Brings}
use Rattle.promises.specs.History.{given}
use Rattle.promises.specs.Demand3.{RepliesAtOnce}
use Rattle.promises.specs.Notes.{refused}
use Rattle.promises.specs.Wired.{Wired}
use Rattle.promises.proofs.Replies.{replies}

module _ (f : MessageForm) (h : Inputs) where
  said_at_once : (k : ℕ) (m : List ℕ) (r : Reply) (b : List ℕ) → Bytes m → Brings m (h k) → Arrives m f (reply_verdict r) → body_of r ≡ b →
      RepliesAtOnce (given (wrapping_of f) h k) (in_form f m b)
  said_at_once k m r b bytes came arrives is =
      let e = one_reading (reads (wrapping_of f) m) (reading.AtOnce r) (only m bytes arrives) in
      let g = ((replies (lawful f) h).said_at_once k m came.room r came.enough e).1 came.is in
      let w = written f m r bytes ∙ ap (in_form f m) is in
      subst (λ (l : List ℕ). RepliesAtOnce (given (wrapping_of f) h k) l) w (record { tells = g.0; writes = g.1 })

  -- a message that comes to a refusal's number is silent with that refusal
  silenced : (k n : ℕ) (m : List ℕ) (r : Reading) → Brings m (h k) → reads (wrapping_of f) m ≡ r → reading_verdict r ≡ verdict.refused n →
      ((given (wrapping_of f) h k).told ≡ refused n) × ((given (wrapping_of f) h k).wrote ≡ [])
  silenced k n m (reading.Silent x) came q e =
      let same : number_of x ≡ n = cc in
      subst (λ (y : ℕ). ((given (wrapping_of f) h k).told ≡ refused y) × ((given (wrapping_of f) h k).wrote ≡ [])) same
      ((replies (lawful f) h).silent k m came.room x came.enough q came.is)
  silenced k n m (reading.AtOnce (Exception u fn c)) came q e = clash cc
  silenced k n m (reading.AtOnce (Value u fn v)) came q e = clash cc
  silenced k n m (reading.AtOnce (Offset u fn o v)) came q e = clash cc
  silenced k n m (reading.AtOnce (Zero u fn)) came q e = clash cc
  silenced k n m (reading.AtOnce (Whole u o v t)) came q e = clash cc
  silenced k n m (reading.Accepted o) came q e = clash cc

  pub wired : Wired f h (given (wrapping_of f) h)
  unfolding body_of
  wired = record {
    silent = λ k n m bytes came arrives. silenced k n m (reads (wrapping_of f) m) came refl (only m bytes arrives);
    excepts = λ k u fn c m bytes low came arrives. said_at_once k m (Exception u fn c) _ bytes came arrives (as_excepted u fn c low);
    version = λ k u fn v m bytes came arrives. said_at_once k m (Value u fn v) _ bytes came arrives refl;
  }
