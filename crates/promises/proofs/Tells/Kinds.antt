-- What is told to an input is of its kind, and refused with one of its numbers.
-- Assumes nothing.
use Rattle.std.specs.Prelude.{Option, Some, None}
use Rattle.modbus.specs.declared.Reply.{Reply}
use Prim.Native.Nat.{ℕ}
use mathlib.Core.Path.{◌≡◌, refl, sym, ap, ◌∙◌, subst, subst⁻¹}
use mathlib.Core.Logic.{inl, inr, ⊎_elim}
use mathlib.Core.Bool.{Bool, true, false, cond}
use mathlib.Core.List.{List, [], ◌∷◌, map}
use lib.ListN.{length}
use borrow.Author.Tests.{leb-true}
use Rattle.word.proofs.Clash.{clash}
use Rattle.refusals.specs.declared.Refusal.{Refusal}
use Rattle.refusals.specs.Numbers as numbers
use Rattle.word.specs.declared.Frame.{Frame}
use Rattle.word.specs.Checks.{Check, Fails, here, later, Passes, all}
use Rattle.word.proofs.Checks.{either}
use Rattle.turns.specs.Events.{Event}
use Rattle.turns.specs.Events as line
use Rattle.modbus.specs.declared.Order.{Order}
use Rattle.modbus.specs.Outcomes.{lacking_of}
use Rattle.modbus.specs.declared.Reading.{Reading}
use Rattle.modbus.specs.declared.Reading.TheVariants as reading
use Rattle.modbus.specs.Wrapping.{Wrapping, reads, silences_of}
use Rattle.modbus.specs.Lawful.{Among, Lawful}
use Rattle.modbus.proofs.Messages.{silent}
use Rattle.promises.specs.declared.Asking.{Asking}
use Rattle.promises.specs.Box.{Gateway, Moved, Ticked, Steps}
use Rattle.promises.specs.Notes.{BoxNote, passed, refused, box_note_of}
use Rattle.promises.specs.Four.{line_of, ticks_of}
use Rattle.promises.specs.Settle.{tell_of}
use Rattle.promises.specs.Entries.{Does, roomy, ticked_of, read_of, asked_of, lack_of, asks_of, taken_of, replied}
use Rattle.promises.specs.Inputs.{Input, tick, thermostat, boiler, message, Inputs}
use Rattle.promises.specs.History.{gift_of, box_at, given}
use Rattle.promises.specs.Projection.{events_on, Says}
use Rattle.promises.specs.Demand1.{silences, checks_of}
use Rattle.promises.specs.Tells.{refusals, May, refuses, tick_quiet, tick_ends, thermostat_held, boiler_passed, boiler_dropped, boiler_ends}
use Rattle.promises.specs.Tells.{message_taken, message_replied}
use Rattle.promises.proofs.Numbers.{inside_four}
use Rattle.promises.proofs.Entries.Laws.{tick_yes, message_yes}
use Rattle.promises.proofs.Entries.Cases.{tick_end}
use Rattle.promises.proofs.Projection.{projects}
use Rattle.promises.proofs.Projection.Speeches.{Speech, none, quiet as silently, sent, over, held as holds, refused as refusing, answer}
use Rattle.promises.proofs.Projection.Speeches.{passed as passes, dropped as drops, unheard, taken, excepted, speech}
use Rattle.promises.proofs.Projection.Sight.{boiler_seen}
use Rattle.promises.proofs.Projection.Project.{note_is}
use Rattle.promises.proofs.Refused.{demand1, held_where}

-- ---- the numbers

abbrev numbers_of : List (Check Refusal) → List ℕ
numbers_of [] = []
numbers_of (c ∷ cs) = numbers.number_of c.number ∷ numbers_of cs

-- the number of a test that fails is one of the list's
among : {cs : List (Check Refusal)} {n : Refusal} → Fails cs n → Among (numbers_of cs) (numbers.number_of n)
among (here e) = inl refl
among (later e f) = inr (among f)

-- and so is the number of one of a list of refusals
mapped : (rs : List Refusal) (r : Refusal) → Among rs r → Among (map numbers.number_of rs) (numbers.number_of r)
mapped [] r x = x
mapped (s ∷ rs) r (inl e) = inl (ap numbers.number_of e)
mapped (s ∷ rs) r (inr x) = inr (mapped rs r x)

module _ {W : Wrapping} (law : Lawful W) (g : Gateway) where
  of_message : (b : List ℕ) (room : ℕ) (n : Refusal) (r : Reading) → reads W b ≡ r → Fails (roomy room ∷ silences r) n →
      Among (refusals W (message b room)) (numbers.number_of n)
  of_message b room n r q (here e) = inl refl
  of_message b room n (reading.Silent m) q (later e (here off)) = inr (mapped (silences_of W) n (silent law b m q))
  of_message b room n (reading.Silent m) q (later e (later on fails)) = clash cc
  of_message b room n (reading.AtOnce r) q (later e x) = elim x [ ]
  of_message b room n (reading.Accepted o) q (later e x) = elim x [ ]

  number_among : (x : Input) (n : Refusal) → Fails (checks_of W g x) n → Among (refusals W x) (numbers.number_of n)
  number_among (tick room) n fails = among fails
  number_among (thermostat l f) n fails = among fails
  number_among (boiler l f room) n fails = among fails
  number_among (message b room) n fails = of_message b room n (reads W b) refl fails

  -- ---- what else is told to each kind

  tick_may : (room : ℕ) (s : Steps) (e : Option (ℕ × Reply × ℕ)) → May W (tick room) (box_note_of (ticked_of W g s e).result.told)
  unfolding tell_of
  tick_may room s None = tick_quiet
  tick_may room s (Some (t, r, n)) = tick_ends

  asked_may : (b : List ℕ) (room : ℕ) (o : Asking) (a : Option Asking) → May W (message b room) (box_note_of (asked_of W g a o).result.told)
  unfolding taken_of replied
  asked_may b room o None = message_taken
  asked_may b room o (Some p) = message_replied

  read_may : (b : List ℕ) (room : ℕ) (r : Reading) → Passes (roomy room ∷ silences r) → May W (message b room) (box_note_of (read_of W g (W.transaction b) r).result.told)
  unfolding read_of replied asks_of
  read_may b room (reading.Silent n) (all e (all on p)) = clash cc
  read_may b room (reading.AtOnce r) p = message_replied
  read_may b room (reading.Accepted o) p = go (lack_of g.lines o)
    where
      asking : Order → Asking
      asking o = record { order = o; transaction = W.transaction b }

      go : (l : Bool) → May W (message b room) (box_note_of (cond l (replied W g (W.transaction b) (lacking_of o)) (asked_of W g g.asked (asking o))).result.told)
      go true = message_replied
      go false = asked_may b room (asking o) g.asked

-- a boiler frame is told what its line says of it
boiler_may : {W : Wrapping} {e : Event} {s : line.Note} → Speech e s → (l : ℕ) (f : Frame) (room c : ℕ) (t : BoxNote) → e ≡ line.boiler f → Says s c t →
    ((n : ℕ) → t ≡ refused n → ⊥) → May W (boiler l f room) t
boiler_may {W} (answer x w) l f room c t is q off = subst⁻¹ (May W (boiler l f room)) q boiler_ends
boiler_may {W} (passes x) l f room c t is q off = let same : x ≡ f = cc in subst⁻¹ (May W (boiler l f room)) (q ∙ ap passed same) boiler_passed
boiler_may {W} drops l f room c t is q off = subst⁻¹ (May W (boiler l f room)) q boiler_dropped
boiler_may {W} (unheard n) l f room c t is q off = absurd (off (numbers.number_of n) q)
boiler_may {W} none l f room c t is q off = clash cc
boiler_may {W} silently l f room c t is q off = clash cc
boiler_may {W} (sent x y) l f room c t is q off = clash cc
boiler_may {W} (over w) l f room c t is q off = clash cc
boiler_may {W} holds l f room c t is q off = clash cc
boiler_may {W} (refusing n) l f room c t is q off = clash cc
boiler_may {W} taken l f room c t is q off = clash cc
boiler_may {W} (excepted n) l f room c t is q off = clash cc

-- ---- a history

module _ {W : Wrapping} (law : Lawful W) (h : Inputs) (k : ℕ) where
  abbrev g : Gateway
  g = box_at W h k

  -- input k is x, and passes all its tests
  passed_may : (x : Input) → h k ≡ x → Passes (checks_of W g x) → May W x (gift_of W g x).told
  passed_may (tick room) is (all e p) =
      subst⁻¹ (λ (d : Does Ticked). May W (tick room) (box_note_of d.result.told)) (tick_yes W g room (leb-true 16 room e))
      (tick_may law g room (ticks_of g.lines) (tick_end g))
  passed_may (thermostat l f) is p = subst⁻¹ (May W (thermostat l f)) (held_where W g l f p) thermostat_held
  passed_may (boiler l f room) is (all e (all mine p)) =
      let four = inside_four l mine in
      let told : (gift_of W g (h k)).told ≡ (gift_of W g (boiler l f room)).told = ap (λ (x : Input). (gift_of W g x).told) is in
      subst (May W (boiler l f room)) told
      (boiler_may (speech (line_of g.lines l) (events_on W l h (given W h) k)) l f room (length (given W h k).wrote) (given W h k).told
      (boiler_seen W l (given W h k).told (h k) f (record { room = room; is = is; enough = leb-true 16 room e }))
      (subst (λ (s : line.Note). Says s (length (given W h k).wrote) (given W h k).told) (note_is W h four k) ((projects law h four).says k))
      (λ n t. (demand1 W g).only (boiler l f room) n (all e (all mine p)) (sym told ∙ t)))
  passed_may (message b room) is (all e p) =
      subst⁻¹ (λ (d : Does Moved). May W (message b room) (box_note_of d.result.told)) (message_yes W g b room (reads W b) (leb-true 16 room e) refl)
      (read_may law g b room (reads W b) (all e p))

  pub may : May W (h k) (given W h k).told
  may =
      ⊎_elim
      (λ d. subst⁻¹ (May W (h k)) ((demand1 W g).each (h k) d.0 d.1).number (refuses (number_among law g (h k) d.0 d.1)))
      (passed_may (h k) refl) (either (checks_of W g (h k)))
