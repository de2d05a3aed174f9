-- Whether a status question has a status to send (02, Ask 2): the box says so where the line alone does, and both where the history does.
-- Assumes nothing.
use Prim.Native.Nat.{ℕ}
use mathlib.Core.Path.{◌≡◌, refl, sym, ap, ◌∙◌}
use mathlib.Core.Bool.{Bool, true, false}
use lib.ListN.{length}
use Rattle.word.proofs.Clash.{clash}
use Rattle.turns.specs.Line.{Line}
use Rattle.turns.specs.declared.Talker.TheVariants.{Thermostat}
use Rattle.turns.specs.Status.{lacks_of}
use Rattle.turns.specs.Events as line
use Rattle.turns.specs.Exchange.{Lacks}
use Rattle.turns.specs.History.{line_at}
use Rattle.turns.proofs.Memory.{agrees, lack, lack_back}
use Rattle.turns.proofs.Lookup.{Follows, lacks_over}
use Rattle.modbus.specs.declared.Reading.TheVariants as reading
use Rattle.modbus.specs.Outcomes.{lacking_of}
use Rattle.modbus.specs.Wrapping.{Wrapping, writes}
use Rattle.modbus.specs.Lawful.{Lawful}
use Rattle.promises.specs.declared.Asking.{Asking}
use Rattle.promises.specs.Box.{Gateway, Moved}
use Rattle.promises.specs.Notes.{accepted, reply, box_note_of, gone_of}
use Rattle.promises.specs.Parts.{part_in, out_in}
use Rattle.promises.specs.Settle.{question_of}
use Rattle.promises.specs.Entries.{Does, replied, read_of, lack_of}
use Rattle.promises.specs.Inputs.{Input, Inputs, Four}
use Rattle.promises.specs.History.{gift_of, box_at, given}
use Rattle.promises.specs.Demand3.{AsksFor, out_on}
use Rattle.promises.proofs.Entries.Laws.{message_yes, asks_lacking}
use Rattle.promises.proofs.Projection.Project.{sent_in, line_is, out_is}
use Rattle.promises.proofs.Demand3.Under.{E, S}

-- an order that is accepted has a status to send, if it needs one
pub has_status : (W : Wrapping) (g : Gateway) (o : Asking) (x : Input) → AsksFor W o x → (gift_of W g x).told ≡ accepted → lack_of g.lines o.order ≡ false
unfolding read_of replied
has_status W g o x a t = go (lack_of g.lines o.order) refl
  where
    go : (b : Bool) → lack_of g.lines o.order ≡ b → lack_of g.lines o.order ≡ false
    go false e = e
    go true e =
        let is = message_yes W g a.bytes a.brings.room (reading.Accepted o.order) a.brings.enough a.order ∙ asks_lacking W g (record { order = o.order; transaction = W.transaction a.bytes }) e in
        let z : reply (length (writes W (W.transaction a.bytes) (lacking_of o.order))) ≡ accepted =
        sym (ap (λ (i : Input). (gift_of W g i).told) a.brings.is ∙ ap (λ (d : Does Moved). box_note_of d.result.told) is) ∙ t in
        clash cc

module _ {W : Wrapping} (law : Lawful W) (h : Inputs) where
  -- what goes out for the thermostat of line k, by the line alone and by the box
  pub follows : {k : ℕ} → Four k → Follows (S law h k) (λ m. (given W h m).out k)
  follows mine m f e = out_is W h mine m ∙ ap (λ (x : line.Note). gone_of (out_in (part_in x))) e

  pub followed : {k : ℕ} → Four k → Follows (λ m. (given W h m).out k) (S law h k)
  followed {k} mine m f e = sent_in (S law h k m) Thermostat f (sym (out_is W h mine m) ∙ e)

  module _ (n : ℕ) (o : Asking) (mine : Four o.order.line) where
    alone : lack_of (box_at W h n).lines o.order ≡ lacks_of (line_at (E law h o.order.line) n).status (question_of o.order)
    unfolding lack_of
    alone = ap (λ (l : Line). lacks_of l.status (question_of o.order)) (line_is W h mine n)

    pub lack_there : Lacks (S law h o.order.line) n (question_of o.order) → lack_of (box_at W h n).lines o.order ≡ true
    lack_there l = alone ∙ lack_back (S law h o.order.line) n _ (question_of o.order) (agrees (E law h o.order.line) n) l

    pub lack_seen : lack_of (box_at W h n).lines o.order ≡ true → Lacks (out_on (given W h) o) n (question_of o.order)
    lack_seen e =
        lacks_over (S law h o.order.line) (out_on (given W h) o) (follows mine) (followed mine) n (question_of o.order)
        (lack (S law h o.order.line) n _ (question_of o.order) (agrees (E law h o.order.line) n) (sym alone ∙ e))

    pub lack_known : Lacks (out_on (given W h) o) n (question_of o.order) → lack_of (box_at W h n).lines o.order ≡ true
    lack_known l = lack_there (lacks_over (out_on (given W h) o) (S law h o.order.line) (followed mine) (follows mine) n (question_of o.order) l)
