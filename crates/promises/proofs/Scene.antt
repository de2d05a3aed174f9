-- Each line of the box keeps what is promised of a line's turns, of what a boiler frame meets and which frames get past, and to the thermostat: what can be seen of its talk
-- in the box is what can be seen of a line alone, on that line's own history.
-- Assumes nothing.
use Prim.Native.Nat.{ℕ}
use mathlib.Core.Path.{◌≡◌, sym, ap, ◌∙◌, subst, subst⁻¹}
use mathlib.Core.Logic.{⊎_elim}
use lib.ListN.{length}
use Rattle.refusals.specs.declared.Refusal.{Refusal}
use Rattle.refusals.specs.Numbers.{number_of}
use Rattle.word.specs.declared.Frame.{Frame}
use Rattle.turns.specs.declared.Talker.TheVariants.{Modbus}
use Rattle.turns.specs.Events.{Event}
use Rattle.turns.specs.Events as line
use Rattle.turns.specs.History.{do_of}
use Rattle.turns.specs.Scene.{Scene}
use Rattle.turns.specs.Sight.{Came, Took, line_scene}
use Rattle.turns.specs.Relay.{Relay}
use Rattle.turns.specs.Talks.{Turns, Meets, GoodOnly}
use Rattle.turns.specs.Carried.{OrdersUnmeasured}
use Rattle.turns.proofs.Agree.{Into, Agrees, turns_too, meets_too, good_too, relay_too}
use Rattle.turns.proofs.Turning.{turns}
use Rattle.turns.proofs.Meets.{boiler_meets}
use Rattle.turns.proofs.Good.{good_only}
use Rattle.turns.proofs.Carried.{orders_unmeasured}
use Rattle.turns.proofs.Relay.{relays}
use Rattle.modbus.specs.Wrapping.{Wrapping}
use Rattle.modbus.specs.Lawful.{Lawful}
use Rattle.promises.specs.Notes.{BoxNote, held, passed}
use Rattle.promises.specs.Four.{line_of}
use Rattle.promises.specs.Settle.{question_of}
use Rattle.promises.specs.Inputs.{Inputs, Four}
use Rattle.promises.specs.History.{box_at, given}
use Rattle.promises.specs.Projection.{Says, FrameOn, from_thermostat, from_boiler}
use Rattle.promises.specs.Scene.{HeldOn, TakenOn, PassedOn, DroppedOn, RefusedOn, box_scene}
use Rattle.promises.proofs.Projection.{projects}
use Rattle.promises.proofs.Projection.Speeches.{speech, Of, of, note_held, note_passed}
use Rattle.promises.proofs.Projection.Sight.{Seen, seen as sees, clock_is, tick_of_lem, thermostat_of_lem, boiler_of_lem, tick_seen, thermostat_seen, boiler_seen}
use Rattle.promises.proofs.Projection.Project.{note_is}
use Rattle.promises.proofs.Demand3.Under.{E, S}
use Rattle.promises.proofs.Demand3.Begun.{order_on_lem, taken_on}

module _ {W : Wrapping} (law : Lawful W) (h : Inputs) {k : ℕ} (four : Four k) where
  abbrev alone : Scene
  alone = line_scene (E law h k) (S law h k)

  abbrev here : Scene
  here = box_scene W k h (given W h)

  -- what is told where line k makes a note, and the event that it is of
  says_of : (n : ℕ) (x : line.Note) → S law h k n ≡ x → Says x (length (given W h n).wrote) (given W h n).told
  says_of n x is = subst (λ (s : line.Note). Says s (length (given W h n).wrote) (given W h n).told) is ((projects law h four).says n)

  of_note : (n : ℕ) (x : line.Note) → S law h k n ≡ x → Of x (E law h k n)
  of_note n x is = subst (λ (s : line.Note). Of s (E law h k n)) (sym (note_is W h four n) ∙ is) (of (speech (line_of (box_at W h n).lines k) (E law h k n)))

  see : (n : ℕ) → Seen k (h n) (E law h k n)
  see n = sees W k (h n) (given W h n).told

  refused_on : (n : ℕ) (r : Refusal) → S law h k n ≡ line.refused r → RefusedOn k (number_of r) (h n) (given W h n).told
  refused_on n r e = record { frame = ⊎_elim from_unit from_below (of_note n (line.refused r) e); is_refused = says_of n (line.refused r) e }
    where
      from_unit : ((f : Frame) × (E law h k n ≡ line.thermostat f)) → FrameOn k (h n)
      from_unit d = subst⁻¹ (FrameOn k) (thermostat_of_lem (see n) d.0 d.1) (from_thermostat d.0)

      from_below : ((b : Frame) × (E law h k n ≡ line.boiler b)) → FrameOn k (h n)
      from_below d = from_boiler d.0 (boiler_of_lem (see n) d.0 d.1)

  dropped_on : (n : ℕ) → S law h k n ≡ line.dropped → DroppedOn k (h n) (given W h n).told
  dropped_on n e = let d = of_note n line.dropped e in record { b = d.0; frame = boiler_of_lem (see n) d.0 d.1; is_dropped = says_of n line.dropped e }

  up : Into alone here
  up = record {
    clock = clock_is W h (given W h) k;
    ticks = λ n e. tick_of_lem (see n) e;
    holds = λ n f c. record { frame = thermostat_of_lem (see n) f c.frame; is_held = says_of n line.held c.is_held };
    takes = λ n t.
        let b = order_on_lem law h four n t.w t.asked in
        record { asking = b.o; asked = b.accepted.asked; unit = b.line; taken = b.accepted.taken };
    boils = λ n b e. boiler_of_lem (see n) b e;
    goes = λ x n f e. (projects law h four).sends n x f e;
    passes = λ n b e. record { frame = boiler_of_lem (see n) b (of_note n (line.passed b) e); is_passed = says_of n (line.passed b) e };
  }

  -- line k's note of the event e, where input n is that event
  note_of_lem : (n : ℕ) (e : Event) → E law h k n ≡ e → S law h k n ≡ line.note_of (do_of (line_of (box_at W h n).lines k) e).said
  note_of_lem n e is = note_is W h four n ∙ ap (λ (x : Event). line.note_of (do_of (line_of (box_at W h n).lines k) x).said) is

  -- what is told of it
  told_of : (n : ℕ) (e : Event) (t : BoxNote) → E law h k n ≡ e → (given W h n).told ≡ t →
      Says (line.note_of (do_of (line_of (box_at W h n).lines k) e).said) (length (given W h n).wrote) t
  told_of n e t is tl =
      subst (λ (x : BoxNote). Says (line.note_of (do_of (line_of (box_at W h n).lines k) e).said) (length (given W h n).wrote) x) tl
      (says_of n (line.note_of (do_of (line_of (box_at W h n).lines k) e).said) (note_of_lem n e is))

  held_down : (n : ℕ) (f : Frame) → HeldOn k f (h n) (given W h n).told → Came (E law h k) (S law h k) n f
  held_down n f c =
      let is = thermostat_seen W k (given W h n).told (h n) f c.frame in
      record {
        frame = is;
        is_held =
            note_of_lem n (line.thermostat f) is
            ∙ note_held (speech (line_of (box_at W h n).lines k) (line.thermostat f)) (length (given W h n).wrote)
            (told_of n (line.thermostat f) held is c.is_held);
      }

  taken_down : (n : ℕ) → TakenOn W k (h n) (given W h n).told → Took (E law h k) (S law h k) n
  taken_down n t =
      let a = (taken_on law h n t.asking (record { asked = t.asked; taken = t.taken })).there in
      record {
        w = question_of t.asking.order;
        asked = subst (λ (l : ℕ). E law h l n ≡ line.order (question_of t.asking.order)) t.unit a.asked;
        taken = subst (λ (l : ℕ). S law h l n ≡ line.accepted) t.unit a.taken;
      }

  passed_down : (n : ℕ) (b : Frame) → PassedOn k b (h n) (given W h n).told → S law h k n ≡ line.passed b
  passed_down n b c =
      let is = boiler_seen W k (given W h n).told (h n) b c.frame in
      note_of_lem n (line.boiler b) is
      ∙ note_passed (speech (line_of (box_at W h n).lines k) (line.boiler b)) (length (given W h n).wrote)
      (told_of n (line.boiler b) (passed b) is c.is_passed)

  down : Into here alone
  down = record {
    clock = λ n. sym (clock_is W h (given W h) k n);
    ticks = λ n c. tick_seen W k (given W h n).told (h n) c;
    holds = held_down;
    takes = taken_down;
    boils = λ n b c. boiler_seen W k (given W h n).told (h n) b c;
    goes = λ x n f e. (projects law h four).only_sends n x f e;
    passes = passed_down;
  }

  agrees : Agrees alone here
  agrees = record { to = up; back = down; drops = dropped_on; refuses = refused_on }

  pub box_turns : Turns (box_scene W k h (given W h))
  box_turns = turns_too agrees (turns (E law h k))

  pub box_meets : Meets (box_scene W k h (given W h))
  box_meets = meets_too agrees (boiler_meets (E law h k))

  pub box_good_only : GoodOnly (box_scene W k h (given W h))
  box_good_only = good_too agrees (good_only (E law h k))

  pub box_orders_unmeasured : OrdersUnmeasured (box_scene W k h (given W h))
  box_orders_unmeasured n q on = orders_unmeasured (E law h k) n q (down.goes Modbus n q on)

  pub box_relays : Relay (box_scene W k h (given W h))
  box_relays = relay_too agrees (relays (E law h k))
