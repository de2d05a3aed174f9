-- Two boxes of two lawful wrappings, to which the same comes up to its wrapping, give the same up to its wrapping: they stay the same but for the
-- transaction of the order under way.
-- Assumes nothing.
use Rattle.std.specs.Prelude.{Option, Some, None}
use Prim.Native.Nat.{ℕ, zero, suc}
use mathlib.Core.Path.{◌≡◌, refl, sym, ◌∙◌, subst}
use mathlib.Core.Logic.{inl, inr}
use mathlib.Core.Bool.{Bool, true, false, cond}
use mathlib.Core.List.{List, []}
use lib.Dec.{eqb, leb}
use lib.ListN.{length}
use borrow.Author.Tests.{leb-true, leb-false}
use Rattle.refusals.specs.Numbers.{number_of}
use Rattle.word.specs.declared.Frame.{Frame}
use Rattle.turns.specs.Events.{note_of}
use Rattle.turns.specs.Line.{Step}
use Rattle.modbus.specs.declared.Order.{Order}
use Rattle.modbus.specs.declared.Reading.{Reading}
use Rattle.modbus.specs.declared.Reading.TheVariants.{Silent, AtOnce, Accepted}
use Rattle.modbus.specs.declared.Reply.{Reply}
use Rattle.modbus.specs.Outcomes.{lacking_of, busy_of}
use Rattle.modbus.specs.Wire.{least_room}
use Rattle.modbus.specs.Wrapping.{Wrapping, serial, tcp, reads, writes}
use Rattle.modbus.specs.Lawful.{Lawful}
use Rattle.modbus.proofs.Wrapping.{serial_lawful, tcp_lawful, as_its_body, not_sized, whole}
use Rattle.promises.specs.declared.Asking.{Asking}
use Rattle.promises.specs.declared.Told.{Told}
use Rattle.promises.specs.declared.Told.TheVariants.{Quiet, Refused}
use Rattle.promises.specs.Box.{Gateway, Lines, box, Moved, Ticked, Steps}
use Rattle.promises.specs.Notes.{box_note_of}
use Rattle.promises.specs.Parts.{Part, nothing, goes, tells, takes, excepts, ends, part_in}
use Rattle.promises.specs.Four.{inside_of, ticks_of, said_of}
use Rattle.promises.specs.Settle.{settled_in, settled_of, after_tick, after_boiler, still_of, plain_of, tell_of, writes_of}
use Rattle.promises.specs.Entries.{Does, gives, tick_of, thermostat_of, boiler_step, boiler_of, taken_of, replied, asked_of, lack_of, asks_of, read_of, message_of}
use Rattle.promises.specs.Inputs.{Input, Inputs, Gift}
use Rattle.promises.specs.History.{next, gift_of, box_at, given}
use Rattle.promises.specs.Rewrapped.{SameInput, ticks, thermostats, boilers, messages, SameInputs, uncounted, SameSaid, Rewrapped}
use Rattle.promises.proofs.Unjudged.{tick_gift, move_gift, either}

-- the same order under way, or none, and what has become of it
data SameAsked : Option Asking → Option Asking → Type 0 where
  none : SameAsked None None
  one : (o : Order) (t u : ℕ) → SameAsked (Some (record { order = o; transaction = t })) (Some (record { order = o; transaction = u }))

data SameEnd : Option (ℕ × Reply × ℕ) → Option (ℕ × Reply × ℕ) → Type 0 where
  going : SameEnd None None
  came : (t u : ℕ) (r : Reply) (n : ℕ) → SameEnd (Some (t, r, n)) (Some (u, r, n))

ends_in : (o : Order) (t u : ℕ) (p : Part) → SameEnd (settled_in (record { order = o; transaction = t }) p) (settled_in (record { order = o; transaction = u }) p)
ends_in o t u (ends w n) = came t u _ n
ends_in o t u nothing = going
ends_in o t u (goes x f) = going
ends_in o t u (tells x) = going
ends_in o t u takes = going
ends_in o t u excepts = going

after_tick_lem : {a b : Option Asking} → SameAsked a b → (s : Steps) → SameEnd (after_tick a s) (after_tick b s)
unfolding after_tick settled_of
after_tick_lem none s = going
after_tick_lem (one o t u) s = ends_in o t u (part_in (note_of (said_of s o.line)))

after_boiler_lem : {a b : Option Asking} → SameAsked a b → (l : ℕ) (s : Step) → SameEnd (after_boiler a l s.said) (after_boiler b l s.said)
unfolding after_boiler settled_of
after_boiler_lem none l s = going
after_boiler_lem (one o t u) l s = go (eqb o.line l)
  where
    go : (b : Bool) →
        SameEnd (cond b (settled_of (record { order = o; transaction = t }) s.said) None) (cond b (settled_of (record { order = o; transaction = u }) s.said) None)
    go true = ends_in o t u (part_in (note_of s.said))
    go false = going

still : {a b : Option Asking} {e f : Option (ℕ × Reply × ℕ)} → SameAsked a b → SameEnd e f → SameAsked (still_of a e) (still_of b f)
unfolding still_of
still s going = s
still s (came t u r n) = none

-- two boxes after an input, and what each gives
record Alike (W X : Wrapping) (g k : Gateway) (a b : Gift) : Type 0 where
  lines : g.lines ≡ k.lines
  asked : SameAsked g.asked k.asked
  said : SameSaid W X a b

module _ {W X : Wrapping} (law : Lawful W) (other : Lawful X) where
  no_bytes : W.body [] ≡ X.body []
  no_bytes = law.empty ∙ sym other.empty

  one_body : (t u : ℕ) (r : Reply) → W.body (writes W t r) ≡ X.body (writes X u r)
  one_body t u r = whole law t r ∙ sym (whole other u r)

  wrote : {e f : Option (ℕ × Reply × ℕ)} → SameEnd e f → W.body (writes_of W e) ≡ X.body (writes_of X f)
  unfolding writes_of
  wrote going = no_bytes
  wrote (came t u r n) = one_body t u r

  told : {e f : Option (ℕ × Reply × ℕ)} → SameEnd e f → (x : Told) → uncounted (box_note_of (tell_of W e x)) ≡ uncounted (box_note_of (tell_of X f x))
  unfolding tell_of
  told going x = refl
  told (came t u r n) x = refl

  abbrev OfTick : Does Ticked → Does Ticked → Type 0
  OfTick d e = Alike W X d.result.gateway e.result.gateway (tick_gift d) (tick_gift e)

  abbrev OfMove : Does Moved → Does Moved → Type 0
  OfMove d e = Alike W X d.result.gateway e.result.gateway (move_gift d) (move_gift e)

  abbrev OfHeld : Moved → Moved → Type 0
  OfHeld m n = OfMove (gives m []) (gives n [])

  module _ (ls : Lines) {a b : Option Asking} (s : SameAsked a b) where
    abbrev g : Gateway
    g = box ls a

    abbrev k : Gateway
    k = box ls b

    -- a refusal, and every other answer at once that is the same
    said_at_once : (t : Told) → OfMove (gives (record { gateway = g; told = t }) []) (gives (record { gateway = k; told = t }) [])
    said_at_once t = record { lines = refl; asked = s; said = record { told = refl; body = no_bytes; out = λ l. refl } }

    of_tick : (n : ℕ) → OfTick (tick_of W g n) (tick_of X k n)
    unfolding tick_of
    of_tick n =
        let e = after_tick_lem s (ticks_of ls) in
        either OfTick (leb least_room n) _ _ _ _
        (record { lines = refl; asked = still s e; said = record { told = told e Quiet; body = wrote e; out = λ l. refl } })
        (record { lines = refl; asked = s; said = record { told = refl; body = no_bytes; out = λ l. refl } })

    of_thermostat : (l : ℕ) (f : Frame) → OfHeld (thermostat_of g l f) (thermostat_of k l f)
    unfolding thermostat_of
    of_thermostat l f =
        either OfHeld (inside_of l) _ _ _ _ (record { lines = refl; asked = s; said = record { told = refl; body = no_bytes; out = λ l. refl } })
        (said_at_once (Refused 9))

    of_boiler : (l : ℕ) (f : Frame) (n : ℕ) → OfMove (boiler_of W g l f n) (boiler_of X k l f n)
    unfolding boiler_of
    of_boiler l f n =
        let step = boiler_step g l f in
        let e = after_boiler_lem s l step in
        either OfMove (leb least_room n) _ _ _ _
        (either OfMove (inside_of l) _ _ _ _
        (record { lines = refl; asked = still s e; said = record { told = told e (plain_of step.said); body = wrote e; out = λ l. refl } })
        (said_at_once (Refused 9)))
        (said_at_once (Refused 15))

    -- ---- a message

    of_reply : (t u : ℕ) (r : Reply) → OfMove (replied W g t r) (replied X k u r)
    unfolding replied
    of_reply t u r = record { lines = refl; asked = s; said = record { told = refl; body = one_body t u r; out = λ l. refl } }

    module _ (o : Order) (t u : ℕ) where
      abbrev here : Asking
      here = record { order = o; transaction = t }

      abbrev there : Asking
      there = record { order = o; transaction = u }

      of_asked : {c d : Option Asking} → SameAsked c d → OfMove (asked_of W g c here) (asked_of X k d there)
      unfolding taken_of
      of_asked none = record { lines = refl; asked = one o t u; said = record { told = refl; body = no_bytes; out = λ l. refl } }
      of_asked (one p x y) = of_reply t u (busy_of o)

      of_asks : OfMove (asks_of W g here) (asks_of X k there)
      unfolding asks_of
      of_asks = either OfMove (lack_of ls o) _ _ _ _ (of_reply t u (lacking_of o)) (of_asked s)

    of_read : (t u : ℕ) (r : Reading) → OfMove (read_of W g t r) (read_of X k u r)
    unfolding read_of
    of_read t u (Silent r) = said_at_once (Refused (number_of r))
    of_read t u (AtOnce r) = of_reply t u r
    of_read t u (Accepted o) = of_asks o t u

    -- a body is read alike in both, and refused in both where it is too short or too long
    read_alike : (c : List ℕ) (t u : ℕ) → reads W (W.wraps t c) ≡ reads X (X.wraps u c)
    read_alike c t u = go (leb 2 (length c)) (leb (length c) 254) refl refl
      where
        go : (x y : Bool) → leb 2 (length c) ≡ x → leb (length c) 254 ≡ y → reads W (W.wraps t c) ≡ reads X (X.wraps u c)
        go true true from upto =
            let lo = leb-true 2 (length c) from in
            let hi = leb-true (length c) 254 upto in
            as_its_body law t c lo hi ∙ sym (as_its_body other u c lo hi)
        go true false from upto =
            let out = inr (leb-false (length c) 254 upto) in
            not_sized law t c out ∙ sym (not_sized other u c out)
        go false y from upto =
            let out = inl (leb-false 2 (length c) from) in
            not_sized law t c out ∙ sym (not_sized other u c out)

    of_message : (c : List ℕ) (t u n : ℕ) → OfMove (message_of W g (W.wraps t c) n) (message_of X k (X.wraps u c) n)
    unfolding message_of
    of_message c t u n =
        either OfMove (leb least_room n) _ _ _ _
        (subst (λ (r : Reading). OfMove (read_of W g (W.transaction (W.wraps t c)) (reads W (W.wraps t c))) (read_of X k (X.transaction (X.wraps u c)) r))
        (read_alike c t u)
        (of_read (W.transaction (W.wraps t c)) (X.transaction (X.wraps u c)) (reads W (W.wraps t c))))
        (said_at_once (Refused 15))

    -- every input
    does : {x y : Input} → SameInput W X x y → Alike W X (next W g x) (next X k y) (gift_of W g x) (gift_of X k y)
    does (ticks n) = of_tick n
    does (thermostats l f) = of_thermostat l f
    does (boilers l f n) = of_boiler l f n
    does (messages c t u n) = of_message c t u n

  -- ---- histories

  record SameBox (g k : Gateway) : Type 0 where
    lines : g.lines ≡ k.lines
    asked : SameAsked g.asked k.asked

  at_both : {g k : Gateway} → SameBox g k → {x y : Input} → SameInput W X x y → Alike W X (next W g x) (next X k y) (gift_of W g x) (gift_of X k y)
  at_both {g} {k} s {x} {y} same =
      subst (λ (ls : Lines). Alike W X (next W g x) (next X (box ls k.asked) y) (gift_of W g x) (gift_of X (box ls k.asked) y)) s.lines
      (does g.lines s.asked same)

  module _ (h i : Inputs) (same : SameInputs W X h i) where
    same_boxes : (n : ℕ) → SameBox (box_at W h n) (box_at X i n)
    unfolding box_at
    same_boxes zero = record { lines = refl; asked = none }
    same_boxes (suc n) = let a = at_both (same_boxes n) (same n) in record { lines = a.lines; asked = a.asked }

    pub rewrapped : Rewrapped W X (given W h) (given X i)
    rewrapped n = (at_both (same_boxes n) (same n)).said

-- "the same requests and replies": a serial box and a TCP one
pub either_form : (h i : Inputs) → SameInputs serial tcp h i → Rewrapped serial tcp (given serial h) (given tcp i)
either_form = rewrapped serial_lawful tcp_lawful
