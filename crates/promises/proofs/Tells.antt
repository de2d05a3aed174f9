-- What is told to an input is of its kind, nothing is written where no reply is told, a reply at once is an exception or unit 5's version and
-- leaves the box as it was, and a frame goes out at a tick alone.
-- Assumes nothing.
use Rattle.std.specs.Prelude.{Option, Some, None}
use Prim.Native.Nat.{ℕ}
use mathlib.Core.Path.{◌≡◌, refl, sym, ap, ◌∙◌, subst⁻¹}
use mathlib.Core.Logic.{◌⊎◌, inl, inr}
use mathlib.Core.Bool.{Bool, true, false, cond}
use mathlib.Core.List.{List, []}
use lib.Dec.{leb}
use lib.ListN.{length}
use borrow.Author.Tests.{leb-true, leb-false}
use Rattle.word.proofs.Clash.{clash}
use Rattle.word.specs.declared.Frame.{Frame}
use Rattle.turns.specs.declared.Talker.{Talker}
use Rattle.turns.specs.Events as line
use Rattle.modbus.specs.declared.Order.{Order}
use Rattle.modbus.specs.Outcomes.{exception_of, lacking_of}
use Rattle.modbus.specs.declared.Reading.{Reading}
use Rattle.modbus.specs.declared.Reading.TheVariants as reading
use Rattle.modbus.specs.Wire.{least_room}
use Rattle.modbus.specs.Wrapping.{Wrapping, reads}
use Rattle.modbus.specs.Lawful.{Lawful, exception}
use Rattle.modbus.proofs.Messages.{said_at_once as given_at_once}
use Rattle.promises.specs.declared.Asking.{Asking}
use Rattle.promises.specs.Box.{Gateway, Moved}
use Rattle.promises.specs.Notes.{BoxNote, quiet, held, passed, dropped, accepted, reply, outcome, refused, box_note_of, bytes_in}
use Rattle.promises.specs.Entries.{Does, message_of, read_of, asked_of, lack_of, asks_of, taken_of, replied}
use Rattle.promises.specs.Inputs.{Input, tick, thermostat, boiler, message, Inputs, Gift, Ticks, Brings}
use Rattle.promises.specs.History.{next, nowhere, gift_of, box_at, given}
use Rattle.promises.specs.Tells.{May, refuses, tick_quiet, tick_ends, thermostat_held, boiler_passed, boiler_dropped, boiler_ends}
use Rattle.promises.specs.Tells.{message_taken, message_replied, Replied, said_at_once, ends, AtOnce, Tells}
use Rattle.promises.proofs.Entries.Laws.{message_15, message_yes}
use Rattle.promises.proofs.Entries.Cases.{gift, counted, no_bytes}
use Rattle.promises.proofs.Refused.{demand1}
use Rattle.promises.proofs.Tells.Kinds.{may}
pub mod Kinds

module _ {W : Wrapping} (law : Lawful W) (h : Inputs) (k : ℕ) where
  abbrev g : Gateway
  g = box_at W h k

  -- ---- what is written

  nothing_yet : (t : BoxNote) → (given W h k).told ≡ t → Replied t ⊎ ((given W h k).wrote ≡ [])
  nothing_yet t is = go t (counted W g (h k) ∙ ap bytes_in is)
    where
      go : (t : BoxNote) → length (given W h k).wrote ≡ bytes_in t → Replied t ⊎ ((given W h k).wrote ≡ [])
      go quiet n = inr (no_bytes _ n)
      go held n = inr (no_bytes _ n)
      go (passed f) n = inr (no_bytes _ n)
      go dropped n = inr (no_bytes _ n)
      go accepted n = inr (no_bytes _ n)
      go (reply c) n = inl (said_at_once c)
      go (outcome c w) n = inl (ends c w)
      go (refused m) n = inr (no_bytes _ n)

  -- a reply at once: its bytes, and that the box is as it was
  pub record Replies (x : Input) (s : Gift) (after : Gateway) : Type 0 where
    pub bytes : AtOnce W x s.wrote
    pub state : after ≡ g
    pub out : (l : ℕ) → s.out l ≡ line.nothing

  abbrev Replying : Input → Does Moved → Type 0
  Replying x d = Replies x (gift (box_note_of d.result.told) d.wrote nowhere) d.result.gateway

  -- a message x of the bytes b that has its room
  module _ (x : Input) (b : List ℕ) (came : Brings b x) where
    excepted : (o : Order) (code : ℕ) → Replying x (replied W g (W.transaction b) (exception_of o code))
    unfolding replied
    excepted o code = record {
      bytes = record { message = b; came = came; reply = _; given = exception o.line o.function code; wrote = refl };
      state = refl;
      out = λ l. refl;
    }

    abbrev asking : Order → Asking
    asking o = record { order = o; transaction = W.transaction b }

    asked_replies : (c : ℕ) (o : Order) (a : Option Asking) → box_note_of (asked_of W g a (asking o)).result.told ≡ reply c → Replying x (asked_of W g a (asking o))
    unfolding taken_of replied
    asked_replies c o None e = clash cc
    asked_replies c o (Some p) e = excepted o 0x06

    read_replies : (c : ℕ) (r : Reading) → reads W b ≡ r → box_note_of (read_of W g (W.transaction b) r).result.told ≡ reply c →
        Replying x (read_of W g (W.transaction b) r)
    unfolding read_of replied asks_of
    read_replies c (reading.Silent n) q e = clash cc
    read_replies c (reading.AtOnce r) q e = record {
      bytes = record { message = b; came = came; reply = r; given = given_at_once law b r q; wrote = refl };
      state = refl;
      out = λ l. refl;
    }
    read_replies c (reading.Accepted o) q e = go (lack_of g.lines o) e
      where
        go : (l : Bool) →
            box_note_of (cond l (replied W g (W.transaction b) (lacking_of o)) (asked_of W g g.asked (asking o))).result.told ≡ reply c →
            Replying x (cond l (replied W g (W.transaction b) (lacking_of o)) (asked_of W g g.asked (asking o)))
        go true e = excepted o 0x04
        go false e = asked_replies c o g.asked e

  message_replies : (c : ℕ) (b : List ℕ) (room : ℕ) (a : Bool) → leb least_room room ≡ a → (gift_of W g (message b room)).told ≡ reply c →
      Replying (message b room) (message_of W g b room)
  message_replies c b room true q e =
      let law = message_yes W g b room (reads W b) (leb-true 16 room q) refl in
      subst⁻¹ (Replying (message b room)) law
      (read_replies (message b room) b (record { room = room; is = refl; enough = leb-true 16 room q }) c (reads W b) refl (sym (ap (λ (d : Does Moved). box_note_of d.result.told) law) ∙ e))
  message_replies c b room false q e =
      let z : refused 15 ≡ reply c = sym (ap (λ (d : Does Moved). box_note_of d.result.told) (message_15 W g b room (leb-false 16 room q))) ∙ e in
      clash cc

  -- it is a message's alone
  only_message : (c : ℕ) (t : BoxNote) → t ≡ reply c → (x : Input) → May W x t → (gift_of W g x).told ≡ t → Replies x (gift_of W g x) (next W g x)
  only_message c t r x (refuses a) e = clash cc
  only_message c t r x tick_quiet e = clash cc
  only_message c t r x tick_ends e = clash cc
  only_message c t r x thermostat_held e = clash cc
  only_message c t r x boiler_passed e = clash cc
  only_message c t r x boiler_dropped e = clash cc
  only_message c t r x boiler_ends e = clash cc
  only_message c t r x message_taken e = clash cc
  only_message c t r (message b room) message_replied e = message_replies c b room (leb least_room room) refl (e ∙ r)

  pub replies : (c : ℕ) → (given W h k).told ≡ reply c → Replies (h k) (given W h k) (next W g (h k))
  replies c e = only_message c (given W h k).told e (h k) (may law h k) refl

  -- ---- what goes out

  at_a_tick : (l : ℕ) (x : Talker) (f : Frame) (i : Input) → (gift_of W g i).out l ≡ line.sent x f → Ticks i
  at_a_tick l x f (tick room) e = go (leb least_room room) refl
    where
      go : (a : Bool) → leb least_room room ≡ a → Ticks (tick room)
      go true q = record { room = room; is = refl; enough = leb-true 16 room q }
      go false q =
          let none = ((demand1 W g).small_tick room (leb-false 16 room q)).stays.out l in
          let z : line.nothing ≡ line.sent x f = sym none ∙ e in
          clash cc
  at_a_tick l x f (thermostat m q) e = clash cc
  at_a_tick l x f (boiler m q n) e = clash cc
  at_a_tick l x f (message b n) e = clash cc

pub tells : {W : Wrapping} → Lawful W → (h : Inputs) → Tells W h (given W h)
tells {W} law h = record {
  may = may law h;
  nothing_yet = λ k. nothing_yet law h k (given W h k).told refl;
  said_at_once = λ k c e. (replies law h k c e).bytes;
  at_a_tick = λ k l x f e. at_a_tick law h k l x f (h k) e;
}
