-- What the history knows of the thermostat's frames: where the held one and the one that is out come from, and how long ago.
--     kept_next   one event
-- Assumes nothing.
use Rattle.std.specs.Prelude.{Option, Some, None}
use Prim.Native.Nat.{ℕ, suc, ◌+◌, ◌<◌, min}
use mathlib.Core.Path.{◌≡◌, sym, ap, ◌∙◌}
use mathlib.Core.Logic.{⊎_elim}
use native.Mathlib.Omega.{arith}
use Rattle.word.specs.declared.Frame.{Frame}
use Rattle.turns.specs.Line.{Line, Step}
use Rattle.turns.specs.declared.Talker.{Talker}
use Rattle.turns.specs.declared.Talker.TheVariants.{Thermostat, Modbus}
use Rattle.turns.specs.declared.Turn.{Turn}
use Rattle.turns.specs.declared.Turn.TheVariants.{Rest, Talk}
use Rattle.turns.specs.Turns.{older, aged, line_older, ended_of}
use Rattle.turns.specs.Events.{Event, tick, beat, clock, Events, Notes, sent, note_of}
use Rattle.turns.specs.Sight.{Came}
use Rattle.turns.specs.Relay.{NoneHeld, NoneRelayed}
use Rattle.turns.proofs.Clock.{clock_suc, last_or}
use Rattle.turns.proofs.Turned.{H}
use Rattle.turns.proofs.Waiting.{stirs}
use Rattle.turns.proofs.Happens.{Happens, passing, resting, nobody, relay_sent, order_sent, talking, relay_silent, order_silent}
use Rattle.turns.proofs.Happens.{relay_held, relay_refused, order_answered, relay_answered, relay_lost, boiler_refused, order_lacking, order_taken, order_busy}

module _ (h : Events) (s : Notes) where
  -- a count t of the ticks from event i to before event n
  pub record Since (i n t : ℕ) : Type 0 where
    pub d : ℕ
    pub real : d + clock h (suc i) ≡ clock h n
    pub count : t ≡ min d 65535

  grows : (i n t t' : ℕ) → t' ≡ min (t + beat (h n)) 65535 → Since i n t → Since i (suc n) t'
  grows i n t t' g x = let cl = clock_suc h n in record { d = x.d + beat (h n); real = omega arith; count = omega (arith, x.count) }

  -- the held frame
  pub record Keeping (n : ℕ) (f : Frame) (t : ℕ) : Type 0 where
    pub i : ℕ
    pub before : i < n
    pub came : Came h s i f
    pub latest : NoneHeld (H h s) i n
    pub once : NoneRelayed (H h s) i n
    pub age : Since i n t

  abbrev pub HeldAt : ℕ → Option (Frame × ℕ) → Type 0
  HeldAt n None = Unit {0}
  HeldAt n (Some (f, t)) = Keeping n f t

  -- the frame that is out, and that no later one was held where none is held now
  abbrev pub Newest : ℕ → ℕ → Option (Frame × ℕ) → Type 0
  Newest i n None = NoneHeld (H h s) i n
  Newest i n (Some (f, t)) = Unit {0}

  pub record Relaying (n : ℕ) (x : Option (Frame × ℕ)) (f : Frame) (t : ℕ) : Type 0 where
    pub i : ℕ
    pub j : ℕ
    pub came : Came h s i f
    pub sending : i < j
    pub out : s j ≡ sent Thermostat f
    pub past : j < n
    pub age : Since i n t
    pub newest : Newest i n x

  abbrev pub OutAt : ℕ → Turn → Option (Frame × ℕ) → Type 0
  OutAt n (Rest r) x = Unit {0}
  OutAt n (Talk Thermostat f a t) x = Relaying n x f t
  OutAt n (Talk Modbus f a t) x = Unit {0}

  pub record KeptAt (n : ℕ) (t : Turn) (x : Option (Frame × ℕ)) : Type 0 where
    pub kept : HeldAt n x
    pub out : OutAt n t x

  -- ---- one event more, at which no thermostat frame is held or goes out

  record Calm (n : ℕ) : Type 0 where
    unheld : (g : Frame) → Came h s n g → ⊥
    unsent : (g : Frame) → s n ≡ sent Thermostat g → ⊥

  calm : (n v : ℕ) → stirs (s n) ≡ v → (v ≡ 1 → ⊥) → (v ≡ 2 → ⊥) → Calm n
  calm n v is one two = record {
    unheld = λ g on. one (sym is ∙ ap stirs on.is_held);
    unsent = λ g on. two (sym is ∙ ap stirs on);
  }

  held_more : (i n : ℕ) → ((g : Frame) → Came h s n g → ⊥) → NoneHeld (H h s) i n → NoneHeld (H h s) i (suc n)
  held_more i n off none m g lo hi on = ⊎_elim (λ l. none m g lo l on) (λ is. off g (rw is at on)) (last_or m n hi)

  kept_on : (n : ℕ) (f : Frame) (t t' : ℕ) → Calm n → t' ≡ min (t + beat (h n)) 65535 → Keeping n f t → Keeping (suc n) f t'
  kept_on n f t t' c g o = record {
    i = o.i;
    before = omega (arith, o.before);
    came = o.came;
    latest = held_more o.i n c.unheld o.latest;
    once = λ m q lo hi on. ⊎_elim (λ l. o.once m q lo l on) (λ is. c.unsent q (rw is at on)) (last_or m n hi);
    age = grows o.i n t t' g o.age;
  }

  out_on_lem : (n : ℕ) (x y : Option (Frame × ℕ)) (f : Frame) (t t' : ℕ) → t' ≡ min (t + beat (h n)) 65535 →
      ((i : ℕ) → Newest i n x → Newest i (suc n) y) → Relaying n x f t → Relaying (suc n) y f t'
  out_on_lem n x y f t t' g newest o = record {
    i = o.i;
    j = o.j;
    came = o.came;
    sending = o.sending;
    out = o.out;
    past = omega (arith, o.past);
    age = grows o.i n t t' g o.age;
    newest = newest o.i o.newest;
  }

  -- no tick
  slot_on : (n : ℕ) (x : Option (Frame × ℕ)) → Calm n → beat (h n) ≡ 0 → HeldAt n x → HeldAt (suc n) x
  slot_on n None c z o = tt
  slot_on n (Some (f, t)) c z o = kept_on n f t t c (omega (arith, o.age.count)) o

  newest_on : (n : ℕ) (x : Option (Frame × ℕ)) → Calm n → (i : ℕ) → Newest i n x → Newest i (suc n) x
  newest_on n None c i o = held_more i n c.unheld o
  newest_on n (Some (f, t)) c i o = tt

  turn_on : (n : ℕ) (t : Turn) (x : Option (Frame × ℕ)) → Calm n → beat (h n) ≡ 0 → OutAt n t x → OutAt (suc n) t x
  turn_on n (Rest r) x c z o = tt
  turn_on n (Talk Thermostat f a t) x c z o = out_on_lem n x x f t t (omega (arith, o.age.count)) (newest_on n x c) o
  turn_on n (Talk Modbus f a t) x c z o = tt

  stays : (n v : ℕ) (l : Line) → stirs (s n) ≡ v → (v ≡ 1 → ⊥) → (v ≡ 2 → ⊥) → beat (h n) ≡ 0 → KeptAt n l.turn l.held →
      KeptAt (suc n) l.turn l.held
  stays n v l is one two z o =
      let c = calm n v is one two in
      record { kept = slot_on n l.held c z o.kept; out = turn_on n l.turn l.held c z o.out }

  -- a tick
  slot_older : (n : ℕ) (x : Option (Frame × ℕ)) → Calm n → beat (h n) ≡ 1 → HeldAt n x → HeldAt (suc n) (aged x)
  unfolding aged
  slot_older n None c z o = tt
  slot_older n (Some (f, t)) c z o = kept_on n f t (older t) c (omega arith) o

  newest_older : (n : ℕ) (x : Option (Frame × ℕ)) → Calm n → (i : ℕ) → Newest i n x → Newest i (suc n) (aged x)
  unfolding aged
  newest_older n None c i o = held_more i n c.unheld o
  newest_older n (Some (f, t)) c i o = tt

  turn_older_lem : (n : ℕ) (y : Talker) (f : Frame) (a b t : ℕ) (x : Option (Frame × ℕ)) → Calm n → beat (h n) ≡ 1 → OutAt n (Talk y f a t) x →
      OutAt (suc n) (Talk y f b (older t)) (aged x)
  turn_older_lem n Thermostat f a b t x c z o = out_on_lem n x (aged x) f t (older t) (omega arith) (newest_older n x c) o
  turn_older_lem n Modbus f a b t x c z o = tt

  kept_older : (n : ℕ) (l : Line) (v : ℕ) → h n ≡ tick → stirs (s n) ≡ v → (v ≡ 1 → ⊥) → (v ≡ 2 → ⊥) → HeldAt n l.held → HeldAt (suc n) (aged l.held)
  kept_older n l v e is one two o = slot_older n l.held (calm n v is one two) (ap beat e) o

  held_on : (n : ℕ) (l : Line) → beat (h n) ≡ 0 → stirs (s n) ≡ 0 → HeldAt n l.held → HeldAt (suc n) l.held
  held_on n l z is o = slot_on n l.held (calm n 0 is (λ e. omega arith) (λ e. omega arith)) z o

  -- ---- a frame comes, and goes out

  comes : (n : ℕ) (f : Frame) → Came h s n f → Keeping (suc n) f 0
  comes n f on = record {
    i = n;
    before = omega arith;
    came = on;
    latest = λ m g lo hi no_one. omega arith;
    once = λ m g lo hi no_one. omega arith;
    age = record { d = 0; real = omega arith; count = omega arith };
  }

  later : (n : ℕ) (t : Turn) (x : Option (Frame × ℕ)) (f : Frame) → beat (h n) ≡ 0 → OutAt n t x → OutAt (suc n) t (Some (f, 0))
  later n (Rest r) x f z o = tt
  later n (Talk Thermostat q a t) x f z o = out_on_lem n x (Some (f, 0)) q t t (omega (arith, o.age.count)) (λ i z. tt) o
  later n (Talk Modbus q a t) x f z o = tt

  goes : (n : ℕ) (f : Frame) (t : ℕ) → beat (h n) ≡ 1 → s n ≡ sent Thermostat f → Keeping n f t → Relaying (suc n) None f (older t)
  goes n f t z on o = record {
    i = o.i;
    j = n;
    came = o.came;
    sending = o.before;
    out = on;
    past = omega arith;
    age = grows o.i n t (older t) (omega arith) o.age;
    newest = held_more o.i n (λ g came. let two = ap stirs on in let one = ap stirs came.is_held in omega arith) o.latest;
  }

  -- ---- every event

  pub kept_next : (n : ℕ) {l : Line} {e : Event} {S : Step} → Happens l e S → h n ≡ e → s n ≡ note_of S.said →
      KeptAt n l.turn l.held → KeptAt (suc n) S.line.turn S.line.held
  unfolding line_older ended_of
  kept_next n (passing l) e es o = stays n 0 l (ap stirs es) (λ z. omega arith) (λ z. omega arith) (ap beat e) o
  kept_next n (resting l r lt) e es o = record { kept = kept_older n l 0 e (ap stirs es) (λ z. omega arith) (λ z. omega arith) o.kept; out = tt }
  kept_next n (nobody l r ge eh eo) e es o = record { kept = kept_older n l 0 e (ap stirs es) (λ z. omega arith) (λ z. omega arith) o.kept; out = tt }
  kept_next n (relay_sent l r f t ge eh first) e es o = record { kept = tt; out = goes n f t (ap beat e) es (rw eh at o.kept) }
  kept_next n (order_sent l r w u ge eo first) e es o =
      record { kept = kept_older n l 4 e (ap stirs es) (λ z. omega arith) (λ z. omega arith) o.kept; out = tt }
  kept_next n (talking l x q a u lt) e es o =
      record {
        kept = kept_older n l 0 e (ap stirs es) (λ z. omega arith) (λ z. omega arith) o.kept;
        out = turn_older_lem n x q a (older a) u l.held (calm n 0 (ap stirs es) (λ z. omega arith) (λ z. omega arith)) (ap beat e) o.out;
      }
  kept_next n (relay_silent l q a u ge) e es o =
      record { kept = kept_older n l 0 e (ap stirs es) (λ z. omega arith) (λ z. omega arith) o.kept; out = tt }
  kept_next n (order_silent l q a u ge) e es o =
      record { kept = kept_older n l 0 e (ap stirs es) (λ z. omega arith) (λ z. omega arith) o.kept; out = tt }
  kept_next n (relay_held l f) e es o =
      record { kept = comes n f (record { frame = e; is_held = es }); out = later n l.turn l.held f (ap beat e) o.out }
  kept_next n (relay_refused l f r) e es o = stays n 0 l (ap stirs es) (λ z. omega arith) (λ z. omega arith) (ap beat e) o
  kept_next n (order_answered l q a u f ma lo hi) e es o = record { kept = held_on n l (ap beat e) (ap stirs es) o.kept; out = tt }
  kept_next n (relay_answered l q a u f ma lo hi eh le) e es o = record { kept = held_on n l (ap beat e) (ap stirs es) o.kept; out = tt }
  kept_next n (relay_lost l q a u f ma lo hi lost) e es o = record { kept = held_on n l (ap beat e) (ap stirs es) o.kept; out = tt }
  kept_next n (boiler_refused l f r un) e es o = stays n 0 l (ap stirs es) (λ z. omega arith) (λ z. omega arith) (ap beat e) o
  kept_next n (order_lacking l w lack) e es o = stays n 0 l (ap stirs es) (λ z. omega arith) (λ z. omega arith) (ap beat e) o
  kept_next n (order_taken l w has free) e es o = stays n 3 l (ap stirs es) (λ z. omega arith) (λ z. omega arith) (ap beat e) o
  kept_next n (order_busy l w has under) e es o = stays n 0 l (ap stirs es) (λ z. omega arith) (λ z. omega arith) (ap beat e) o
