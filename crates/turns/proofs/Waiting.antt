-- What the history knows of who waits: a frame is held exactly if the thermostat waits, and an order exactly if Modbus does.
--     waiting_next   one event
-- Assumes nothing.
use Rattle.std.specs.Prelude.{Option, Some, None, is_some}
use Prim.Native.Nat.{ℕ, suc, ◌<◌}
use mathlib.Core.Path.{◌≡◌, sym, ap, ◌∙◌}
use mathlib.Core.Logic.{⊎_elim}
use mathlib.Core.Bool.{Bool, true, false}
use native.Mathlib.Omega.{arith}
use Rattle.word.proofs.Clash.{clash}
use Rattle.word.specs.declared.Frame.{Frame}
use Rattle.turns.specs.Line.{Line, line, Step}
use Rattle.turns.specs.declared.Query.{Query}
use Rattle.turns.specs.declared.Turn.{Turn}
use Rattle.turns.specs.declared.Turn.TheVariants.{Rest, Talk}
use Rattle.turns.specs.declared.Talker.{Talker}
use Rattle.turns.specs.declared.Talker.TheVariants.{Thermostat, Modbus}
use Rattle.turns.specs.declared.Status.{Status}
use Rattle.turns.specs.Turns.{older, aged, line_older, ended_of, under_way}
use Rattle.turns.specs.Events.{Event, Events, Notes}
use Rattle.turns.specs.Events.{Note, nothing, held, sent, passed, dropped, accepted, exception, answer, no_answer, refused, note_of}
use Rattle.turns.specs.Scene.{Comes}
use Rattle.turns.specs.Scene as scene
use Rattle.turns.proofs.Clock.{last_or}
use Rattle.turns.proofs.Turned.{H}
use Rattle.turns.proofs.Happens.{own, Happens, passing, resting, nobody, relay_sent, order_sent, talking, relay_silent, order_silent}
use Rattle.turns.proofs.Happens.{relay_held, relay_refused, order_answered, relay_answered, relay_lost, boiler_refused, order_lacking, order_taken, order_busy}

-- what a note says of who waits: something of a talker comes, or goes out, or neither
abbrev pub stirs : Note → ℕ
stirs nothing = 0
stirs held = 1
stirs (sent Thermostat f) = 2
stirs (sent Modbus f) = 4
stirs (passed f) = 0
stirs dropped = 0
stirs accepted = 3
stirs (exception n) = 0
stirs (answer f n) = 0
stirs (no_answer n) = 0
stirs (refused r) = 0

abbrev coming : Talker → ℕ
coming Thermostat = 1
coming Modbus = 3

abbrev going : Talker → ℕ
going Thermostat = 2
going Modbus = 4

-- "Only one order waits .., from acceptance until its outcome": none waits behind one that talks
abbrev pub Alone : Turn → Option (Query × ℕ) → Type 0
Alone (Rest r) o = Unit {0}
Alone (Talk Thermostat q a u) o = Unit {0}
Alone (Talk Modbus q a u) None = Unit {0}
Alone (Talk Modbus q a u) (Some (w, t)) = ⊥

alone_older : (x : Talker) (q : Frame) (a u b v : ℕ) (o : Option (Query × ℕ)) → Alone (Talk x q a u) o → Alone (Talk x q b v) (aged o)
unfolding aged
alone_older Thermostat q a u b v o al = tt
alone_older Modbus q a u b v None al = tt
alone_older Modbus q a u b v (Some (w, t)) al = absurd al

alone_taken : (t : Turn) (x : Option (Frame × ℕ)) (o : Option (Query × ℕ)) (y : Talker) (m : Status) (w : Query) → under_way (line t x o y m) ≡ false → Alone t (Some (w, 0))
unfolding under_way
alone_taken (Rest r) x o y m w free = tt
alone_taken (Talk Thermostat q a u) x o y m w free = tt
alone_taken (Talk Modbus q a u) x None y m w free = clash cc
alone_taken (Talk Modbus q a u) x (Some (v, t)) y m w free = clash cc

pub alone_next : {l : Line} {e : Event} {S : Step} → Happens l e S → Alone l.turn l.order → Alone S.line.turn S.line.order
unfolding line_older ended_of
alone_next (passing l) al = al
alone_next (resting l r lt) al = tt
alone_next (nobody l r ge eh eo) al = tt
alone_next (relay_sent l r f t ge eh first) al = tt
alone_next (order_sent l r w u ge eo first) al = tt
alone_next (talking l x q a u lt) al = alone_older x q a u (older a) (older u) l.order al
alone_next (relay_silent l q a u ge) al = tt
alone_next (order_silent l q a u ge) al = tt
alone_next (relay_held l f) al = al
alone_next (relay_refused l f r) al = al
alone_next (order_answered l q a u f ma lo hi) al = tt
alone_next (relay_answered l q a u f ma lo hi eh le) al = tt
alone_next (relay_lost l q a u f ma lo hi lost) al = tt
alone_next (boiler_refused l f r un) al = al
alone_next (order_lacking l w lack) al = al
alone_next (order_taken l w has free) al = alone_taken l.turn l.held l.order l.last l.status w free
alone_next (order_busy l w has under) al = al

module _ (h : Events) (s : Notes) where
  abbrev pub Waiting : ℕ → Talker → Bool → Type 0
  Waiting n x true = scene.Waits (H h s) x n
  Waiting n x false = scene.Waits (H h s) x n → ⊥

  comes_stirs : (n : ℕ) (x : Talker) → Comes (H h s) x n → stirs (s n) ≡ coming x
  comes_stirs n Thermostat c = ap stirs c.1.is_held
  comes_stirs n Modbus c = ap stirs c.taken

  goes_stirs : (n : ℕ) (x : Talker) (q : Frame) → s n ≡ sent x q → stirs (s n) ≡ going x
  goes_stirs n Thermostat q e = ap stirs e
  goes_stirs n Modbus q e = ap stirs e

  -- where nothing of x comes at event n, it came before
  before : (n : ℕ) (x : Talker) → (stirs (s n) ≡ coming x → ⊥) → (w : scene.Waits (H h s) x (suc n)) → w.i < n
  before n x off w =
      ⊎_elim (λ l. l) (λ is. let c : Comes (H h s) x n = rw is at w.comes in absurd (off (comes_stirs n x c))) (last_or w.i n w.before)

  -- something of x comes; it goes out; and neither
  comes : (n : ℕ) (x : Talker) → Comes (H h s) x n → Waiting (suc n) x true
  comes n x c = record { i = n; before = omega arith; comes = c; unsent = λ m q lo hi on. omega arith }

  goes : (n : ℕ) (x : Talker) (q : Frame) → s n ≡ sent x q → (stirs (s n) ≡ coming x → ⊥) → Waiting (suc n) x false
  goes n x q on off w = w.unsent n q (before n x off w) (omega arith) on

  keeps : (n : ℕ) (x : Talker) (v : ℕ) (b : Bool) → stirs (s n) ≡ v → (v ≡ coming x → ⊥) → (v ≡ going x → ⊥) → Waiting n x b → Waiting (suc n) x b
  keeps n x v true is off mute = λ w. record {
    i = w.i;
    before = omega (arith, w.before);
    comes = w.comes;
    unsent = λ m q lo hi on.
        ⊎_elim (λ l. w.unsent m q lo l on) (λ at_n. let now : s n ≡ sent x q = rw at_n at on in mute (sym is ∙ goes_stirs n x q now)) (last_or m n hi);
  }
  keeps n x v false is off mute = λ none w.
      none
      (record {
        i = w.i;
        before = before n x (λ e. off (sym is ∙ e)) w;
        comes = w.comes;
        unsent = λ m q lo hi on. w.unsent m q lo (omega arith) on;
      })

  -- ---- both talkers

  pub record WaitingAt (n : ℕ) (held : Option (Frame × ℕ)) (order : Option (Query × ℕ)) : Type 0 where
    pub relay : Waiting n Thermostat (is_some held)
    pub asks : Waiting n Modbus (is_some order)

  older_waits : {A : Type 0} (n : ℕ) (x : Talker) (o : Option (A × ℕ)) → Waiting n x (is_some o) → Waiting n x (is_some (aged o))
  unfolding aged
  older_waits n x None w = w
  older_waits n x (Some (f, t)) w = w

  waits_older : (n : ℕ) (x : Option (Frame × ℕ)) (o : Option (Query × ℕ)) → WaitingAt n x o → WaitingAt n (aged x) (aged o)
  waits_older n x o w = record { relay = older_waits n Thermostat x w.relay; asks = older_waits n Modbus o w.asks }

  -- nothing comes and nothing goes out
  stay : (n : ℕ) (x : Option (Frame × ℕ)) (o : Option (Query × ℕ)) → stirs (s n) ≡ 0 → WaitingAt n x o → WaitingAt (suc n) x o
  stay n x o is w = record {
    relay = keeps n Thermostat 0 (is_some x) is (λ z. omega arith) (λ z. omega arith) w.relay;
    asks = keeps n Modbus 0 (is_some o) is (λ z. omega arith) (λ z. omega arith) w.asks;
  }

  ages : (n : ℕ) (x : Option (Frame × ℕ)) (o : Option (Query × ℕ)) → stirs (s n) ≡ 0 → WaitingAt n x o → WaitingAt (suc n) (aged x) (aged o)
  ages n x o is w = waits_older (suc n) x o (stay n x o is w)

  -- an order's talk ends: none waits, since only one is under way
  freed : (n : ℕ) (x : Option (Frame × ℕ)) (o : Option (Query × ℕ)) (q : Frame) (a u : ℕ) → Alone (Talk Modbus q a u) o → WaitingAt n x o → WaitingAt n x None
  freed n x None q a u al w = w
  freed n x (Some (v, t)) q a u al w = absurd al

  pub waiting_next : (n : ℕ) {l : Line} {e : Event} {S : Step} → Happens l e S → h n ≡ e → s n ≡ note_of S.said →
      Alone l.turn l.order → WaitingAt n l.held l.order → WaitingAt (suc n) S.line.held S.line.order
  unfolding line_older aged ended_of
  waiting_next n (passing l) e es al o = stay n l.held l.order (ap stirs es) o
  waiting_next n (resting l r lt) e es al o = ages n l.held l.order (ap stirs es) o
  waiting_next n (nobody l r ge eh eo) e es al o = ages n l.held l.order (ap stirs es) o
  waiting_next n (relay_sent l r f t ge eh first) e es al o = record {
    relay = goes n Thermostat f es (λ z. let two = ap stirs es in omega arith);
    asks = older_waits (suc n) Modbus l.order (keeps n Modbus 2 (is_some l.order) (ap stirs es) (λ z. omega arith) (λ z. omega arith) o.asks);
  }
  waiting_next n (order_sent l r w u ge eo first) e es al o = record {
    relay = older_waits (suc n) Thermostat l.held (keeps n Thermostat 4 (is_some l.held) (ap stirs es) (λ z. omega arith) (λ z. omega arith) o.relay);
    asks = goes n Modbus (own l.status w) es (λ z. let four = ap stirs es in omega arith);
  }
  waiting_next n (talking l x q a u lt) e es al o = ages n l.held l.order (ap stirs es) o
  waiting_next n (relay_silent l q a u ge) e es al o = ages n l.held l.order (ap stirs es) o
  waiting_next n (order_silent l q a u ge) e es al o =
      waits_older (suc n) l.held None (stay n l.held None (ap stirs es) (freed n l.held l.order q a u al o))
  waiting_next n (relay_held l f) e es al o = record {
    relay = comes n Thermostat (f, record { frame = e; is_held = es });
    asks = keeps n Modbus 1 (is_some l.order) (ap stirs es) (λ z. omega arith) (λ z. omega arith) o.asks;
  }
  waiting_next n (relay_refused l f r) e es al o = stay n l.held l.order (ap stirs es) o
  waiting_next n (order_answered l q a u f ma lo hi) e es al o = stay n l.held None (ap stirs es) (freed n l.held l.order q a u al o)
  waiting_next n (relay_answered l q a u f ma lo hi eh le) e es al o = stay n l.held l.order (ap stirs es) o
  waiting_next n (relay_lost l q a u f ma lo hi lost) e es al o = stay n l.held l.order (ap stirs es) o
  waiting_next n (boiler_refused l f r un) e es al o = stay n l.held l.order (ap stirs es) o
  waiting_next n (order_lacking l w lack) e es al o = stay n l.held l.order (ap stirs es) o
  waiting_next n (order_taken l w has free) e es al o = record {
    relay = keeps n Thermostat 3 (is_some l.held) (ap stirs es) (λ z. omega arith) (λ z. omega arith) o.relay;
    asks = comes n Modbus (record { w = w; asked = e; taken = es });
  }
  waiting_next n (order_busy l w has under) e es al o = stay n l.held l.order (ap stirs es) o
