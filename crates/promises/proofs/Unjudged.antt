-- Nothing is decided by the numbers that come with a frame (02, Ask 3): the box does the same without them, and writes the same bytes. And an order's
-- own frame has none, on each line.
-- Assumes nothing.
use Rattle.std.specs.Prelude.{Option, Some, None}
use Rattle.turns.specs.declared.Talker.{Talker}
use Prim.Native.Nat.{ℕ, zero, suc}
use mathlib.Core.Path.{◌≡◌, refl, sym, ap, ap₂, ◌∙◌, subst⁻¹}
use mathlib.Core.Bool.{Bool, true, false, cond}
use mathlib.Core.List.{List, []}
use lib.Dec.{eqb, leb}
use Rattle.word.specs.declared.Frame.{Frame}
use Rattle.turns.specs.Line.{Line, Step}
use Rattle.turns.specs.declared.Said.{Said}
use Rattle.turns.specs.declared.Said.TheVariants as said
use Rattle.turns.specs.Events as line
use Rattle.turns.specs.Turns as turns
use Rattle.turns.specs.Status.{lacks_of}
use Rattle.turns.specs.History.{do_of}
use Rattle.turns.specs.Carried.{bare, bare_event, bare_note}
use Rattle.turns.proofs.Carried.{bare_line, bare_said, bare_step, chosen, bare_does}
use Rattle.modbus.specs.declared.Order.{Order}
use Rattle.modbus.specs.declared.Reply.{Reply}
use Rattle.modbus.specs.declared.Reading.{Reading}
use Rattle.modbus.specs.declared.Reading.TheVariants.{Silent, AtOnce, Accepted}
use Rattle.modbus.specs.Outcomes.{lacking_of, busy_of}
use Rattle.modbus.specs.Wire.{least_room}
use Rattle.modbus.specs.Wrapping.{Wrapping, reads}
use Rattle.promises.specs.declared.Asking.{Asking}
use Rattle.promises.specs.declared.Told.{Told}
use Rattle.promises.specs.declared.Told.TheVariants.{Quiet}
use Rattle.promises.specs.Box.{Lines, Gateway, box, Moved, Ticked, Steps}
use Rattle.promises.specs.Notes.{box_note_of, gone_of}
use Rattle.promises.specs.Parts.{outcome_of}
use Rattle.promises.specs.Four.{inside_of, nth, line_of, put_of, ticks_of, said_of, out_of, outs_of, no_outs}
use Rattle.promises.specs.Settle.{question_of, settled_of, after_tick, after_boiler, still_of, plain_of, tell_of}
use Rattle.promises.specs.Entries.{Does, gives, tick_of, ticked_of, thermostat_of, thermostat_step, held_of, boiler_of, boiler_step, moved_of, message_of, read_of}
use Rattle.promises.specs.Entries.{lack_of, asks_of, asked_of, taken_of, replied}
use Rattle.promises.specs.Inputs.{Input, tick, thermostat, boiler, message, Inputs, Gift}
use Rattle.promises.specs.History.{next, out_at, nowhere, gift_of, box_at, given}
use Rattle.promises.specs.Carried.{bare_input, bare_told, SameWords, SameGifts}
use Rattle.promises.proofs.Numbers.{nth_of}

abbrev pub tick_gift : Does Ticked → Gift
tick_gift d = record { told = box_note_of d.result.told; wrote = d.wrote; out = out_at d.result.outs }

abbrev pub move_gift : Does Moved → Gift
move_gift d = record { told = box_note_of d.result.told; wrote = d.wrote; out = nowhere }

-- the box without the numbers of its lines' frames
abbrev bare_lines : Lines → Lines
bare_lines ls = record { one = bare_line ls.one; two = bare_line ls.two; three = bare_line ls.three; four = bare_line ls.four }

abbrev bare_box : Gateway → Gateway
bare_box g = box (bare_lines g.lines) g.asked

abbrev bare_steps : Steps → Steps
bare_steps s = record { one = bare_step s.one; two = bare_step s.two; three = bare_step s.three; four = bare_step s.four }

line_bare : (ls : Lines) (k : ℕ) → line_of (bare_lines ls) k ≡ bare_line (line_of ls k)
unfolding line_of
line_bare ls k = nth_of bare_line k ls.one ls.two ls.three ls.four

put_bare : (ls : Lines) (k : ℕ) (l : Line) → put_of (bare_lines ls) k (bare_line l) ≡ bare_lines (put_of ls k l)
unfolding put_of
put_bare ls k l =
    ap₂ (λ (a b : Line). record { one = a; two = b; three = cond (eqb k 3) (bare_line l) (bare_line ls.three); four = cond (eqb k 4) (bare_line l) (bare_line ls.four) })
    (chosen bare_line (eqb k 1) l ls.one) (chosen bare_line (eqb k 2) l ls.two)
    ∙ ap₂ (λ (c d : Line). record { one = bare_line (cond (eqb k 1) l ls.one); two = bare_line (cond (eqb k 2) l ls.two); three = c; four = d })
    (chosen bare_line (eqb k 3) l ls.three) (chosen bare_line (eqb k 4) l ls.four)

-- what the box makes of what a line says: the same for the order under way, and the same but for the numbers to tell and to send
record SaidAlike (s : Said) : Type 0 where
  settles : (o : Asking) → settled_of o (bare_said s) ≡ settled_of o s
  tells : box_note_of (plain_of (bare_said s)) ≡ bare_told (box_note_of (plain_of s))
  goes : gone_of (out_of (bare_said s)) ≡ bare_note (gone_of (out_of s))

alike : (s : Said) → SaidAlike s
unfolding settled_of plain_of outcome_of
alike said.Quiet = record { settles = λ o. refl; tells = refl; goes = refl }
alike (said.Sent x f) = record { settles = λ o. refl; tells = refl; goes = refl }
alike (said.Answer f n) = record { settles = λ o. refl; tells = refl; goes = refl }
alike (said.NoAnswer n) = record { settles = λ o. refl; tells = refl; goes = refl }
alike (said.Passed f) = record { settles = λ o. refl; tells = refl; goes = refl }
alike said.Dropped = record { settles = λ o. refl; tells = refl; goes = refl }
alike said.Held = record { settles = λ o. refl; tells = refl; goes = refl }
alike said.Taken = record { settles = λ o. refl; tells = refl; goes = refl }
alike (said.Exception n) = record { settles = λ o. refl; tells = refl; goes = refl }
alike (said.Refused n) = record { settles = λ o. refl; tells = refl; goes = refl }

-- an entry's box and what it gives, without the numbers and with them
record Alike (g' g : Gateway) (s' s : Gift) : Type 0 where
  state : g' ≡ bare_box g
  told : s'.told ≡ bare_told s.told
  wrote : s'.wrote ≡ s.wrote
  out : (k : ℕ) → s'.out k ≡ bare_note (s.out k)

abbrev OfTick : Does Ticked → Does Ticked → Type 0
OfTick d e = Alike d.result.gateway e.result.gateway (tick_gift d) (tick_gift e)

abbrev OfMove : Does Moved → Does Moved → Type 0
OfMove d e = Alike d.result.gateway e.result.gateway (move_gift d) (move_gift e)

pub either : {A : Type 0} (P : A → A → Type 0) (b : Bool) (x' y' x y : A) → P x' x → P y' y → P (cond b x' y') (cond b x y)
either P true x' y' x y h g = h
either P false x' y' x y h g = g

-- ---- a tick

ticks_bare : (ls : Lines) → ticks_of (bare_lines ls) ≡ bare_steps (ticks_of ls)
unfolding ticks_of
ticks_bare ls =
    ap₂ (λ (a b : Step). record { one = a; two = b; three = turns.tick_of (bare_line ls.three); four = turns.tick_of (bare_line ls.four) })
    (bare_does ls.one line.tick) (bare_does ls.two line.tick)
    ∙ ap₂ (λ (c d : Step). record { one = bare_step (turns.tick_of ls.one); two = bare_step (turns.tick_of ls.two); three = c; four = d })
    (bare_does ls.three line.tick) (bare_does ls.four line.tick)

after_tick_lem : (a : Option Asking) (s : Steps) → after_tick a (bare_steps s) ≡ after_tick a s
unfolding after_tick said_of
after_tick_lem None s = refl
after_tick_lem (Some o) s =
    ap (settled_of o) (nth_of bare_said o.order.line s.one.said s.two.said s.three.said s.four.said)
    ∙ (alike (said_of s o.order.line)).settles o

outs_bare : (s : Steps) (k : ℕ) → out_at (outs_of (bare_steps s)) k ≡ bare_note (out_at (outs_of s) k)
outs_bare s k =
    let at : Said = nth k s.one.said s.two.said s.three.said s.four.said in
    ap gone_of (nth_of (λ (x : Said). out_of (bare_said x)) k s.one.said s.two.said s.three.said s.four.said)
    ∙ (alike at).goes
    ∙ sym (ap (λ (x : Option (Talker × Frame)). bare_note (gone_of x)) (nth_of out_of k s.one.said s.two.said s.three.said s.four.said))

module _ (W : Wrapping) (g : Gateway) where
  -- a reply is told without numbers
  told_settled : (e : Option (ℕ × Reply × ℕ)) (t : Told) → box_note_of t ≡ bare_told (box_note_of t) → box_note_of (tell_of W e t) ≡ bare_told (box_note_of (tell_of W e t))
  unfolding tell_of
  told_settled None t h = h
  told_settled (Some (u, r, n)) t h = refl

  ticked : (s : Steps) (e : Option (ℕ × Reply × ℕ)) → OfTick (ticked_of W (bare_box g) (bare_steps s) e) (ticked_of W g s e)
  ticked s e = record { state = refl; told = told_settled e Quiet refl; wrote = refl; out = outs_bare s }

  of_tick : (n : ℕ) → OfTick (tick_of W (bare_box g) n) (tick_of W g n)
  unfolding tick_of
  of_tick n =
      let s = ticks_of g.lines in
      either OfTick (leb least_room n) _ _ _ _
      (subst⁻¹ (λ (x : Steps). OfTick (ticked_of W (bare_box g) x (after_tick g.asked x)) (ticked_of W g s (after_tick g.asked s))) (ticks_bare g.lines)
      (subst⁻¹ (λ (e : Option (ℕ × Reply × ℕ)). OfTick (ticked_of W (bare_box g) (bare_steps s) e) (ticked_of W g s (after_tick g.asked s))) (after_tick_lem g.asked s)
      (ticked s (after_tick g.asked s))))
      (record { state = refl; told = refl; wrote = refl; out = λ k. quiet k })
    where
      quiet : (k : ℕ) → out_at no_outs k ≡ bare_note (out_at no_outs k)
      quiet k = let e = ap gone_of (nth_of (λ (x : ℕ). None) k 0 0 0 0) in e ∙ sym (ap bare_note e)

  -- ---- a frame for line l

  -- the line's own step, and the box with it
  step_bare : (l : ℕ) (e : line.Event) → do_of (line_of (bare_lines g.lines) l) (bare_event e) ≡ bare_step (do_of (line_of g.lines l) e)
  step_bare l e = ap (λ (x : Line). do_of x (bare_event e)) (line_bare g.lines l) ∙ bare_does (line_of g.lines l) e

  put : (l : ℕ) (s : Step) (a : Option Asking) → box (put_of (bare_lines g.lines) l (bare_line s.line)) a ≡ bare_box (box (put_of g.lines l s.line) a)
  put l s a = ap (λ (ls : Lines). box ls a) (put_bare g.lines l s.line)

  of_thermostat : (l : ℕ) (f : Frame) → OfMove (gives (thermostat_of (bare_box g) l (bare f)) []) (gives (thermostat_of g l f) [])
  unfolding thermostat_of
  of_thermostat l f =
      let s = thermostat_step g l f in
      either (λ (x y : Moved). OfMove (gives x []) (gives y [])) (inside_of l) _ _ _ _
      (subst⁻¹ (λ (x : Step). OfMove (gives (held_of (bare_box g) l x) []) (gives (held_of g l s) [])) (step_bare l (line.thermostat f))
      (record { state = put l s g.asked; told = (alike s.said).tells; wrote = refl; out = λ k. refl }))
      (record { state = refl; told = refl; wrote = refl; out = λ k. refl })

  after_boiler_lem : (a : Option Asking) (l : ℕ) (s : Said) → after_boiler a l (bare_said s) ≡ after_boiler a l s
  unfolding after_boiler
  after_boiler_lem None l s = refl
  after_boiler_lem (Some o) l s = ap (λ (x : Option (ℕ × Reply × ℕ)). cond (eqb o.order.line l) x None) ((alike s).settles o)

  told_frame : (e : Option (ℕ × Reply × ℕ)) (s : Said) → box_note_of (tell_of W e (plain_of (bare_said s))) ≡ bare_told (box_note_of (tell_of W e (plain_of s)))
  unfolding tell_of
  told_frame None s = (alike s).tells
  told_frame (Some (u, r, n)) s = refl

  moved : (l : ℕ) (s : Step) (e : Option (ℕ × Reply × ℕ)) → OfMove (moved_of W (bare_box g) l (bare_step s) e) (moved_of W g l s e)
  moved l s e = record { state = put l s (still_of g.asked e); told = told_frame e s.said; wrote = refl; out = λ k. refl }

  of_boiler : (l : ℕ) (f : Frame) (n : ℕ) → OfMove (boiler_of W (bare_box g) l (bare f) n) (boiler_of W g l f n)
  unfolding boiler_of
  of_boiler l f n =
      let s = boiler_step g l f in
      let e = after_boiler g.asked l s.said in
      either OfMove (leb least_room n) _ _ _ _
      (either OfMove (inside_of l) _ _ _ _
      (subst⁻¹ (λ (x : Step). OfMove (moved_of W (bare_box g) l x (after_boiler g.asked l x.said)) (moved_of W g l s e)) (step_bare l (line.boiler f))
      (subst⁻¹ (λ (x : Option (ℕ × Reply × ℕ)). OfMove (moved_of W (bare_box g) l (bare_step s) x) (moved_of W g l s e)) (after_boiler_lem g.asked l s.said) (moved l s e)))
      (record { state = refl; told = refl; wrote = refl; out = λ k. refl }))
      (record { state = refl; told = refl; wrote = refl; out = λ k. refl })

  -- ---- a message

  of_reply : (t : ℕ) (r : Reply) → OfMove (replied W (bare_box g) t r) (replied W g t r)
  unfolding replied
  of_reply t r = record { state = refl; told = refl; wrote = refl; out = λ k. refl }

  of_taken : (o : Asking) → OfMove (gives (taken_of (bare_box g) o) []) (gives (taken_of g o) [])
  unfolding taken_of
  of_taken o =
      let s = do_of (line_of g.lines o.order.line) (line.order (question_of o.order)) in
      record {
        state = ap (λ (x : Step). box (put_of (bare_lines g.lines) o.order.line x.line) (Some o)) (step_bare o.order.line (line.order (question_of o.order)))
            ∙ put o.order.line s (Some o);
        told = refl;
        wrote = refl;
        out = λ k. refl;
      }

  of_asked : (a : Option Asking) (o : Asking) → OfMove (asked_of W (bare_box g) a o) (asked_of W g a o)
  of_asked None o = of_taken o
  of_asked (Some p) o = of_reply o.transaction (busy_of o.order)

  lack_bare : (o : Order) → lack_of (bare_lines g.lines) o ≡ lack_of g.lines o
  unfolding lack_of
  lack_bare o = ap (λ (x : Line). lacks_of x.status (question_of o)) (line_bare g.lines o.line)

  of_asks : (a : Asking) → OfMove (asks_of W (bare_box g) a) (asks_of W g a)
  unfolding asks_of
  of_asks a =
      let t = a.transaction in
      let o = a.order in
      subst⁻¹ (λ (b : Bool). OfMove (cond b (replied W (bare_box g) t (lacking_of o)) (asked_of W (bare_box g) g.asked a)) (asks_of W g a)) (lack_bare o)
      (either OfMove (lack_of g.lines o) _ _ _ _ (of_reply t (lacking_of o)) (of_asked g.asked a))

  of_read : (t : ℕ) (r : Reading) → OfMove (read_of W (bare_box g) t r) (read_of W g t r)
  unfolding read_of
  of_read t (Silent n) = record { state = refl; told = refl; wrote = refl; out = λ k. refl }
  of_read t (AtOnce r) = of_reply t r
  of_read t (Accepted o) = of_asks (record { order = o; transaction = t })

  of_message : (b : List ℕ) (n : ℕ) → OfMove (message_of W (bare_box g) b n) (message_of W g b n)
  unfolding message_of
  of_message b n = either OfMove (leb least_room n) _ _ _ _ (of_read (W.transaction b) (reads W b)) (record { state = refl; told = refl; wrote = refl; out = λ k. refl })

  -- every input, at every box
  does : (x : Input) → Alike (next W (bare_box g) (bare_input x)) (next W g x) (gift_of W (bare_box g) (bare_input x)) (gift_of W g x)
  does (tick n) = of_tick n
  does (thermostat l f) = of_thermostat l f
  does (boiler l f n) = of_boiler l f n
  does (message b n) = of_message b n

-- ---- histories

module _ (W : Wrapping) (h g : Inputs) (same : SameWords h g) where
  same_boxes : (n : ℕ) → bare_box (box_at W h n) ≡ bare_box (box_at W g n)
  unfolding box_at
  same_boxes zero = refl
  same_boxes (suc n) =
      sym (does W (box_at W h n) (h n)).state ∙ ap₂ (next W) (same_boxes n) (same n) ∙ (does W (box_at W g n) (g n)).state

  -- whatever numbers come with the frames, the same is given
  pub box_unjudged : SameGifts (given W h) (given W g)
  box_unjudged n =
      let a = does W (box_at W h n) (h n) in
      let b = does W (box_at W g n) (g n) in
      let e : gift_of W (bare_box (box_at W h n)) (bare_input (h n)) ≡ gift_of W (bare_box (box_at W g n)) (bare_input (g n)) = ap₂ (gift_of W) (same_boxes n) (same n) in
      record {
        told = sym a.told ∙ ap (λ (s : Gift). s.told) e ∙ b.told;
        wrote = sym a.wrote ∙ ap (λ (s : Gift). s.wrote) e ∙ b.wrote;
        out = λ k. sym (a.out k) ∙ ap (λ (s : Gift). s.out k) e ∙ b.out k;
      }
