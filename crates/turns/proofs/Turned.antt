-- What the history knows of a line's turn: since when it rests, or which frame is out; and that every other frame's talk is over.
--     turn_next   one event
-- Assumes nothing.
use Prim.Native.Nat.{ℕ, suc, ◌+◌, ◌-◌, ◌≤◌, ◌<◌, min}
use mathlib.Core.Path.{◌≡◌, refl, ap, ◌∙◌, subst⁻¹}
use mathlib.Core.Logic.{◌⊎◌, inl, inr, ⊎_elim}
use native.Mathlib.Omega.{arith}
use Rattle.word.specs.declared.Frame.{Frame}
use Rattle.turns.specs.Line.{Line, Step}
use Rattle.turns.specs.declared.Talker.{Talker}
use Rattle.turns.specs.declared.Talker.TheVariants.{Thermostat, Modbus}
use Rattle.turns.specs.declared.Turn.{Turn}
use Rattle.turns.specs.declared.Turn.TheVariants.{Rest, Talk}
use Rattle.turns.specs.Turns.{older, line_older, ended_of}
use Rattle.turns.specs.Events.{Event, pass, tick, thermostat, boiler, order, beat, clock, Events, Notes}
use Rattle.turns.specs.Events.{Note, nothing, held, sent, passed, dropped, accepted, exception, answer, no_answer, refused, note_of}
use Rattle.turns.specs.Sight.{AnswersIn, line_scene}
use Rattle.turns.specs.Scene.{Scene, Over, Unspoken, Latest, RestsSince, fresh, ended, Last, nobody, somebody}
use Rattle.turns.proofs.Moves.{Deaf, deaf}
use Rattle.turns.proofs.Clock.{clock_suc, last_or, side}
use Rattle.turns.proofs.Pending.{Pending, begins, goes_on, answers}
use Rattle.turns.proofs.Happens.{own, Unanswered, no_answer_to, Happens, passing, resting, relay_sent, order_sent, talking, relay_silent}
use Rattle.turns.proofs.Happens.{order_silent, relay_held, relay_refused, order_answered, relay_answered, relay_lost, boiler_refused}
use Rattle.turns.proofs.Happens.{order_lacking, order_taken, order_busy}
use Rattle.turns.proofs.Happens as happens

-- whether a frame goes out
abbrev pub speaks : Note → ℕ
speaks nothing = 0
speaks held = 0
speaks (sent x f) = 1
speaks (passed f) = 0
speaks dropped = 0
speaks accepted = 0
speaks (exception n) = 0
speaks (answer f n) = 0
speaks (no_answer n) = 0
speaks (refused r) = 0

pub same_or : (i j : ℕ) → (i ≡ j) ⊎ (i ≡ j → ⊥)
same_or i j = ⊎_elim (λ (l : i < j). inr (λ (e : i ≡ j). omega arith)) (λ (g : j ≤ i). ⊎_elim (λ (l : j < i). inr (λ (e : i ≡ j). omega arith))
    (λ (le : i ≤ j). inl (omega arith)) (side j i)) (side i j)

module _ (h : Events) (s : Notes) where
  abbrev pub H : Scene
  H = line_scene h s

  -- no frame goes out at event n
  abbrev Mute : ℕ → Type 0
  Mute n = (x : Talker) (f : Frame) → s n ≡ sent x f → ⊥

  pub mute : (n : ℕ) → speaks (s n) ≡ 0 → Mute n
  mute n z x f e = let one = ap speaks e in omega arith

  -- the talk of the frame p, which went out at event i, is over before event n
  abbrev pub Past : ℕ → ℕ → Frame → Type 0
  Past n i p = (k : ℕ) × (k < n) × Over H i p k

  later : (n i : ℕ) (p : Frame) → Past n i p → Past (suc n) i p
  later n i p o = (o.0, omega (arith, o.1), o.2)

  pub record RestAt (n r : ℕ) (x : Talker) : Type 0 where
    pub c : ℕ
    pub since : RestsSince H n c
    pub begun : c ≤ clock h n
    pub count : r ≡ min 100 (clock h n - c)
    pub last : Last H n x
    pub all : (i : ℕ) (y : Talker) (p : Frame) → i < n → s i ≡ sent y p → Past n i p

  pub record TalkAt (n : ℕ) (x : Talker) (q : Frame) (a : ℕ) : Type 0 where
    pub j : ℕ
    pub latest : Latest H n x j q
    pub out : Pending h j q n a
    pub others : (i : ℕ) (y : Talker) (p : Frame) → i < n → (i ≡ j → ⊥) → s i ≡ sent y p → Past n i p

  abbrev pub TurnAt : ℕ → Turn → Talker → Type 0
  TurnAt n (Rest r) x = RestAt n r x
  TurnAt n (Talk y q a t) x = TalkAt n y q a

  -- ---- one event more, at which no frame goes out

  unspoken_next : (n : ℕ) → Mute n → Unspoken H n → Unspoken H (suc n)
  unspoken_next n mu un m x q lt on = ⊎_elim (λ l. un m x q l on) (λ is. mu x q (rw is at on)) (last_or m n lt)

  latest_next : (n : ℕ) (x : Talker) (j : ℕ) (q : Frame) → Mute n → Latest H n x j q → Latest H (suc n) x j q
  latest_next n x j q mu o = record {
    before = omega (arith, o.before);
    out = o.out;
    hushed = λ m y p lo hi on. ⊎_elim (λ l. o.hushed m y p lo l on) (λ is. mu y p (rw is at on)) (last_or m n hi);
  }

  since_next : (n : ℕ) {c : ℕ} → Mute n → RestsSince H n c → RestsSince H (suc n) c
  since_next n mu (fresh un) = fresh (unspoken_next n mu un)
  since_next n mu (ended x j q k l o lt) = ended x j q k (latest_next n x j q mu l) o (omega (arith, lt))

  last_next : (n : ℕ) {x : Talker} → Mute n → Last H n x → Last H (suc n) x
  last_next n mu (nobody un) = nobody (unspoken_next n mu un)
  last_next n mu (somebody x j q l) = somebody x j q (latest_next n x j q mu l)

  rest_on : (n r r' : ℕ) (x : Talker) → Mute n → r' ≡ min 100 (r + beat (h n)) → RestAt n r x → RestAt (suc n) r' x
  rest_on n r r' x mu grows o =
      let cl = clock_suc h n in
      record {
        c = o.c;
        since = since_next n mu o.since;
        begun = omega (arith, o.begun);
        count = omega (arith, o.count, o.begun);
        last = last_next n mu o.last;
        all = λ i y p lt on. ⊎_elim (λ l. later n i p (o.all i y p l on)) (λ is. absurd (mu y p (rw is at on))) (last_or i n lt);
      }

  talk_on : (n : ℕ) (x : Talker) (q : Frame) (a a' : ℕ) → Mute n → (a < 875 → a' ≡ a + beat (h n)) → (a < 875 → a' < 875) → Deaf (h n) q a →
      TalkAt n x q a → TalkAt (suc n) x q a'
  talk_on n x q a a' mu ea es d o = record {
    j = o.j;
    latest = latest_next n x o.j q mu o.latest;
    out = goes_on h o.j q n a a' ea es d o.out;
    others = λ i y p lt off on. ⊎_elim (λ l. later n i p (o.others i y p l off on)) (λ is. absurd (mu y p (rw is at on))) (last_or i n lt);
  }

  -- no tick, no frame out, no answer: the turn stays
  stays : (n : ℕ) (t : Turn) (x : Talker) → Mute n → beat (h n) ≡ 0 → Unanswered (h n) t → TurnAt n t x → TurnAt (suc n) t x
  stays n (Rest r) x mu z d o = rest_on n r r x mu (omega (arith, o.count)) o
  stays n (Talk y q a t) x mu z d o = talk_on n y q a a mu (λ lt. omega arith) (λ lt. lt) d o

  still : (n : ℕ) (l : Line) (e : Event) → h n ≡ e → Mute n → beat e ≡ 0 → Unanswered e l.turn → TurnAt n l.turn l.last →
      TurnAt (suc n) l.turn l.last
  still n l e is mu z d o = stays n l.turn l.last mu (ap beat is ∙ z) (subst⁻¹ (λ (x : Event). Unanswered x l.turn) is d) o

  -- ---- a talk begins, and ends

  goes : (n r : ℕ) (x y : Talker) (q : Frame) → s n ≡ sent y q → RestAt n r x → TalkAt (suc n) y q 0
  goes n r x y q on o = record {
    j = n;
    latest = record { before = omega arith; out = on; hushed = λ m z p lo hi no_one. omega arith };
    out = begins h q n;
    others = λ i z p lt off it. ⊎_elim (λ l. later n i p (o.all i z p l it)) (λ is. absurd (off is)) (last_or i n lt);
  }

  ends : (n r : ℕ) (x : Talker) (q : Frame) (a : ℕ) → Mute n → r ≡ 0 → (o : TalkAt n x q a) → Over H o.j q n → RestAt (suc n) r x
  ends n r x q a mu er o over = record {
    c = clock h (suc n);
    since = ended x o.j q n (latest_next n x o.j q mu o.latest) over (omega arith);
    begun = omega arith;
    count = omega arith;
    last = somebody x o.j q (latest_next n x o.j q mu o.latest);
    all = λ i y p lt on. ⊎_elim (λ l. before i y p l on) (λ is. absurd (mu y p (rw is at on))) (last_or i n lt);
  }
    where
      before : (i : ℕ) (y : Talker) (p : Frame) → i < n → s i ≡ sent y p → Past (suc n) i p
      before i y p l on =
          ⊎_elim
          (λ is.
          let at_j : s o.j ≡ sent y p = rw is at on in
          let own = o.latest.out in
          let same : q ≡ p = cc in
          (n, omega arith, rw (← is, same) at over))
          (λ off. later n i p (o.others i y p l off on))
          (same_or i o.j)

  silent : (n r : ℕ) (x : Talker) (q : Frame) (a : ℕ) → Mute n → r ≡ 0 → h n ≡ tick → 875 ≤ older a → TalkAt n x q a → RestAt (suc n) r x
  silent n r x q a mu er e ge o =
      let cl = clock_suc h n in
      let eb : beat (h n) ≡ 1 = ap beat e in
      ends n r x q a mu er o (record { after = o.out.later; by = inr (e, omega (arith, o.out.age, o.out.short)); first = o.out.first })

  answered : (n r : ℕ) (x : Talker) (q : Frame) (a : ℕ) (b : Frame) → Mute n → r ≡ 0 → ((o : TalkAt n x q a) → AnswersIn h o.j q n b) →
      TalkAt n x q a → RestAt (suc n) r x
  answered n r x q a b mu er an o = ends n r x q a mu er o (record { after = o.out.later; by = inl (b, an o); first = o.out.first })

  -- ---- every event

  pub turn_next : (n : ℕ) {l : Line} {e : Event} {S : Step} → Happens l e S → h n ≡ e → s n ≡ note_of S.said →
      TurnAt n l.turn l.last → TurnAt (suc n) S.line.turn S.line.last
  unfolding line_older ended_of
  turn_next n (passing l) e es o = still n l pass e (mute n (ap speaks es)) refl (no_answer_to pass l.turn refl) o
  turn_next n (resting l r lt) e es o =
      let eb : beat (h n) ≡ 1 = ap beat e in
      rest_on n r (older r) l.last (mute n (ap speaks es)) (omega arith) o
  turn_next n (happens.nobody l r ge eh eo) e es o =
      let eb : beat (h n) ≡ 1 = ap beat e in
      rest_on n r 100 l.last (mute n (ap speaks es)) (omega (arith, o.count)) o
  turn_next n (relay_sent l r f t ge eh first) e es o = goes n r l.last Thermostat f es o
  turn_next n (order_sent l r w u ge eo first) e es o = goes n r l.last Modbus (own l.status w) es o
  turn_next n (talking l x q a u lt) e es o =
      let eb : beat (h n) ≡ 1 = ap beat e in
      talk_on n x q a (older a) (mute n (ap speaks es)) (λ z. omega arith) (λ z. omega arith) (rw e (deaf tick refl q a)) o
  turn_next n (relay_silent l q a u ge) e es o = silent n _ Thermostat q a (mute n (ap speaks es)) (omega arith) e ge o
  turn_next n (order_silent l q a u ge) e es o = silent n _ Modbus q a (mute n (ap speaks es)) (omega arith) e ge o
  turn_next n (relay_held l f) e es o = still n l (thermostat f) e (mute n (ap speaks es)) refl (no_answer_to (thermostat f) l.turn refl) o
  turn_next n (relay_refused l f r) e es o = still n l (thermostat f) e (mute n (ap speaks es)) refl (no_answer_to (thermostat f) l.turn refl) o
  turn_next n (order_answered l q a u f ma lo hi) e es o =
      answered n _ Modbus q a f (mute n (ap speaks es)) (omega arith) (λ z. answers h z.j q n a f e ma lo hi z.out) o
  turn_next n (relay_answered l q a u f ma lo hi eh le) e es o =
      answered n _ Thermostat q a f (mute n (ap speaks es)) (omega arith) (λ z. answers h z.j q n a f e ma lo hi z.out) o
  turn_next n (relay_lost l q a u f ma lo hi lost) e es o =
      answered n _ Thermostat q a f (mute n (ap speaks es)) (omega arith) (λ z. answers h z.j q n a f e ma lo hi z.out) o
  turn_next n (boiler_refused l f r un) e es o = still n l (boiler f) e (mute n (ap speaks es)) refl un o
  turn_next n (order_lacking l w lack) e es o = still n l (order w) e (mute n (ap speaks es)) refl (no_answer_to (order w) l.turn refl) o
  turn_next n (order_taken l w has free) e es o = still n l (order w) e (mute n (ap speaks es)) refl (no_answer_to (order w) l.turn refl) o
  turn_next n (order_busy l w has under) e es o = still n l (order w) e (mute n (ap speaks es)) refl (no_answer_to (order w) l.turn refl) o
