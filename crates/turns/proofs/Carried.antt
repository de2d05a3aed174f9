-- Nothing is decided by the numbers that come with a frame (02, Ask 3): a line does the same without them. And an order's own frame has none.
-- Assumes nothing.
use Rattle.std.specs.Prelude.{Option, Some, None}
use Prim.Native.Nat.{ℕ, zero, suc}
use mathlib.Core.Path.{◌≡◌, refl, sym, ap, ap₂, ◌∙◌, subst}
use mathlib.Core.Bool.{Bool, true, false, cond}
use mathlib.Core.List.{List, [], ◌∷◌}
use lib.Dec.{ltb, leb}
use Rattle.refusals.specs.declared.Refusal.{Refusal}
use Rattle.word.specs.declared.Frame.{Frame}
use Rattle.word.specs.Checks.{Check, judged}
use Rattle.turns.specs.Line.{Line, line, Step, says}
use Rattle.turns.specs.declared.Query.{Query}
use Rattle.turns.specs.declared.Status.{Status}
use Rattle.turns.specs.declared.Said.{Said}
use Rattle.turns.specs.declared.Said.TheVariants.{Quiet, Sent, Answer, NoAnswer, Passed, Dropped, Held, Taken, Exception, Refused}
use Rattle.turns.specs.declared.Talker.{Talker}
use Rattle.turns.specs.declared.Talker.TheVariants.{Thermostat, Modbus}
use Rattle.turns.specs.declared.Turn.{Turn}
use Rattle.turns.specs.declared.Turn.TheVariants.{Rest, Talk}
use Rattle.turns.specs.Status.{keeps_of, shows_of, lacks_of}
use Rattle.turns.specs.Turns.{silence, full_rest, patience, older, aged, turn_older, line_older, word_for, waiting_of, sends_of, after}
use Rattle.turns.specs.Turns.{start_of, rests_of, ended_of, silence_of, talks_of, tick_of, refusal, thermostat_checks, thermostat_of, passes_of, answered_of}
use Rattle.turns.specs.Turns.{ends_of, boiler_checks, boiler_of, under_way, order_of}
use Rattle.turns.specs.Events.{Event, pass, tick, thermostat, boiler, order, Events, note_of}
use Rattle.turns.specs.Events.{Note, nothing, held, sent, passed, dropped, accepted, exception, answer, no_answer, refused}
use Rattle.turns.specs.History.{do_of, line_at, said_at, notes}
use Rattle.turns.specs.Sight.{line_scene}
use Rattle.turns.specs.Carried.{OrdersUnmeasured, bare, bare_event, bare_note, SameWords, SameNotes}
use Rattle.turns.proofs.Happens.{Happens, happens, passing, resting, nobody, relay_sent, order_sent, talking, relay_silent, order_silent}
use Rattle.turns.proofs.Happens.{relay_held, relay_refused, order_answered, relay_answered, relay_lost, boiler_refused, order_lacking, order_taken}
use Rattle.turns.proofs.Happens.{order_busy}

-- a line without the numbers of its frames
abbrev bare_turn : Turn → Turn
bare_turn (Rest r) = Rest r
bare_turn (Talk x f a u) = Talk x (bare f) a u

abbrev bare_held : Option (Frame × ℕ) → Option (Frame × ℕ)
bare_held None = None
bare_held (Some (f, t)) = Some (bare f, t)

abbrev pub bare_line : Line → Line
bare_line l = line (bare_turn l.turn) (bare_held l.held) l.order l.last l.status

abbrev pub bare_said : Said → Said
bare_said Quiet = Quiet
bare_said (Sent x f) = Sent x (bare f)
bare_said (Answer f n) = Answer (bare f) n
bare_said (NoAnswer n) = NoAnswer n
bare_said (Passed f) = Passed (bare f)
bare_said Dropped = Dropped
bare_said Held = Held
bare_said Taken = Taken
bare_said (Exception n) = Exception n
bare_said (Refused r) = Refused r

abbrev pub bare_step : Step → Step
bare_step s = says (bare_line s.line) (bare_said s.said)

pub bare_noted : (s : Said) → note_of (bare_said s) ≡ bare_note (note_of s)
bare_noted Quiet = refl
bare_noted (Sent x f) = refl
bare_noted (Answer f n) = refl
bare_noted (NoAnswer n) = refl
bare_noted (Passed f) = refl
bare_noted Dropped = refl
bare_noted Held = refl
bare_noted Taken = refl
bare_noted (Exception n) = refl
bare_noted (Refused r) = refl

-- a function after a choice, and after tests
pub chosen : {A B : Type 0} (f : A → B) (b : Bool) (x y : A) → cond b (f x) (f y) ≡ f (cond b x y)
chosen f true x y = refl
chosen f false x y = refl

tested : {A B : Type 0} (f : A → B) (cs : List (Check Refusal)) (r : Refusal → A) (x : A) → judged cs (λ n. f (r n)) (f x) ≡ f (judged cs r x)
tested f [] r x = refl
tested f (c ∷ cs) r x = ap (λ y. cond c.holds y (f (r c.number))) (tested f cs r x) ∙ chosen f c.holds (judged cs r x) (r c.number)

-- ---- a tick

starts : (t : Turn) (h : Option (Frame × ℕ)) (o : Option (Query × ℕ)) (x : Talker) (m : Status) → start_of (bare_line (line t h o x m)) ≡ bare_step (start_of (line t h o x m))
unfolding start_of waiting_of sends_of after word_for shows_of keeps_of
starts t None None Thermostat m = refl
starts t None None Modbus m = refl
starts t (Some (f, u)) None Thermostat m = refl
starts t (Some (f, u)) None Modbus m = refl
starts t None (Some (w, v)) Thermostat m = refl
starts t None (Some (w, v)) Modbus m = refl
starts t (Some (f, u)) (Some (w, v)) Thermostat m = refl
starts t (Some (f, u)) (Some (w, v)) Modbus m = refl

ages : (t : Turn) (h : Option (Frame × ℕ)) (o : Option (Query × ℕ)) (x : Talker) (m : Status) → line_older (bare_line (line t h o x m)) ≡ bare_line (line_older (line t h o x m))
unfolding line_older turn_older aged
ages (Rest r) None o x m = refl
ages (Rest r) (Some (f, u)) o x m = refl
ages (Talk y q a v) None o x m = refl
ages (Talk y q a v) (Some (f, u)) o x m = refl

rests : (l : Line) (r : ℕ) → rests_of (bare_line l) r ≡ bare_step (rests_of l r)
unfolding rests_of
rests l r =
    ap (cond (ltb (older r) full_rest) _) (starts (Rest full_rest) l.held l.order l.last l.status)
    ∙ chosen bare_step (ltb (older r) full_rest) _ _

ends : (l : Line) (x : Talker) (u : ℕ) → silence_of (bare_line l) x u ≡ bare_step (silence_of l x u)
unfolding silence_of ended_of
ends l Thermostat u = refl
ends l Modbus u = refl

talks : (l : Line) (x : Talker) (q : Frame) (a u : ℕ) → talks_of (bare_line l) x (bare q) a u ≡ bare_step (talks_of l x q a u)
unfolding talks_of
talks l x q a u = ap (cond (ltb (older a) silence) _) (ends l x u) ∙ chosen bare_step (ltb (older a) silence) _ _

ticks : (t : Turn) (h : Option (Frame × ℕ)) (o : Option (Query × ℕ)) (x : Talker) (m : Status) → tick_of (bare_line (line t h o x m)) ≡ bare_step (tick_of (line t h o x m))
unfolding tick_of line_older turn_older
ticks (Rest r) h o x m =
    let l = line (Rest r) h o x m in
    ap (λ (k : Line). rests_of k r) (ages (Rest r) h o x m) ∙ rests (line_older l) r
ticks (Talk y q a u) h o x m =
    let l = line (Talk y q a u) h o x m in
    ap (λ (k : Line). talks_of k y (bare q) a (older u)) (ages (Talk y q a u) h o x m) ∙ talks (line_older l) y q a (older u)

-- ---- a thermostat frame, a boiler frame, an order

frames : (l : Line) (f : Frame) → thermostat_of (bare_line l) (bare f) ≡ bare_step (thermostat_of l f)
unfolding thermostat_of refusal shows_of keeps_of
frames l f = tested bare_step (thermostat_checks f) (refusal l) _

replies : (t : Turn) (h : Option (Frame × ℕ)) (o : Option (Query × ℕ)) (x : Talker) (m : Status) (y : Talker) (u : ℕ) (f : Frame) →
    answered_of (bare_line (line t h o x m)) y u (bare f) ≡ bare_step (answered_of (line t h o x m) y u f)
unfolding answered_of ended_of passes_of
replies t h o x m Modbus u f = refl
replies t (Some (g, v)) o x m Thermostat u f = refl
replies t None o x m Thermostat u f = ap (says _) (chosen bare_said (leb u patience) _ _)

answers : (t : Turn) (h : Option (Frame × ℕ)) (o : Option (Query × ℕ)) (x : Talker) (m : Status) (f : Frame) →
    boiler_of (bare_line (line t h o x m)) (bare f) ≡ bare_step (boiler_of (line t h o x m) f)
unfolding boiler_of refusal
answers (Rest r) h o x m f = let l = line (Rest r) h o x m in tested bare_step (boiler_checks l f) (refusal l) (ends_of l f (Rest r))
answers (Talk y q a u) h o x m f =
    let l = line (Talk y q a u) h o x m in
    ap (judged (boiler_checks l f) (λ n. bare_step (refusal l n))) (replies (Talk y q a u) h o x m y u f)
    ∙ tested bare_step (boiler_checks l f) (refusal l) (answered_of l y u f)

asks : (t : Turn) (h : Option (Frame × ℕ)) (o : Option (Query × ℕ)) (x : Talker) (m : Status) → under_way (bare_line (line t h o x m)) ≡ under_way (line t h o x m)
unfolding under_way
asks (Rest r) h o x m = refl
asks (Talk Thermostat q a u) h o x m = refl
asks (Talk Modbus q a u) h o x m = refl

orders : (l : Line) (w : Query) (a b : Bool) → lacks_of l.status w ≡ a → under_way l ≡ b → order_of (bare_line l) w ≡ bare_step (order_of l w)
unfolding order_of
orders l w true true ea eb = simp (asks l.turn l.held l.order l.last l.status ∙ eb, ea, eb)
orders l w true false ea eb = simp (asks l.turn l.held l.order l.last l.status ∙ eb, ea, eb)
orders l w false true ea eb = simp (asks l.turn l.held l.order l.last l.status ∙ eb, ea, eb)
orders l w false false ea eb = simp (asks l.turn l.held l.order l.last l.status ∙ eb, ea, eb)

-- every event, at every line
pub bare_does : (l : Line) (e : Event) → do_of (bare_line l) (bare_event e) ≡ bare_step (do_of l e)
bare_does l pass = refl
bare_does l tick = ticks l.turn l.held l.order l.last l.status
bare_does l (thermostat f) = frames l f
bare_does l (boiler f) = answers l.turn l.held l.order l.last l.status f
bare_does l (order w) = orders l w (lacks_of l.status w) (under_way l) refl refl

-- ---- histories

module _ (h g : Events) (same : SameWords h g) where
  -- after the same events, both do the same
  same_steps : (n : ℕ) → bare_line (line_at h n) ≡ bare_line (line_at g n) → bare_step (do_of (line_at h n) (h n)) ≡ bare_step (do_of (line_at g n) (g n))
  same_steps n e = sym (bare_does (line_at h n) (h n)) ∙ ap₂ do_of e (same n) ∙ bare_does (line_at g n) (g n)

  same_lines : (n : ℕ) → bare_line (line_at h n) ≡ bare_line (line_at g n)
  unfolding line_at
  same_lines zero = refl
  same_lines (suc n) = ap (λ (s : Step). s.line) (same_steps n (same_lines n))

  -- whatever numbers come with the frames, the same is said
  pub unjudged : SameNotes (notes h) (notes g)
  unfolding said_at
  unjudged n =
      sym (bare_noted (said_at h n)) ∙ ap (λ (s : Step). note_of s.said) (same_steps n (same_lines n)) ∙ bare_noted (said_at g n)

-- ---- an order's own frame

abbrev OwnBare : Note → Type 0
OwnBare nothing = Unit {0}
OwnBare held = Unit {0}
OwnBare (sent Thermostat f) = Unit {0}
OwnBare (sent Modbus f) = (f.shortest ≡ 0) × (f.longest ≡ 0)
OwnBare (passed f) = Unit {0}
OwnBare dropped = Unit {0}
OwnBare accepted = Unit {0}
OwnBare (exception n) = Unit {0}
OwnBare (answer f n) = Unit {0}
OwnBare (no_answer n) = Unit {0}
OwnBare (refused r) = Unit {0}

own_bare : {l : Line} {e : Event} {s : Step} → Happens l e s → OwnBare (note_of s.said)
own_bare (passing l) = tt
own_bare (resting l r lt) = tt
own_bare (nobody l r ge eh eo) = tt
own_bare (relay_sent l r f t ge eh first) = tt
own_bare (order_sent l r w u ge eo first) = (refl, refl)
own_bare (talking l x q a u lt) = tt
own_bare (relay_silent l q a u ge) = tt
own_bare (order_silent l q a u ge) = tt
own_bare (relay_held l f) = tt
own_bare (relay_refused l f r) = tt
own_bare (order_answered l q a u f ma lo hi) = tt
own_bare (relay_answered l q a u f ma lo hi eh le) = tt
own_bare (relay_lost l q a u f ma lo hi lost) = tt
own_bare (boiler_refused l f r un) = tt
own_bare (order_lacking l w lack) = tt
own_bare (order_taken l w has free) = tt
own_bare (order_busy l w has under) = tt

pub orders_unmeasured : (h : Events) → OrdersUnmeasured (line_scene h (notes h))
unfolding said_at
orders_unmeasured h n q is = subst OwnBare is (own_bare (happens (line_at h n) (h n)))
