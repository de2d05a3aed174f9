-- What a boiler frame meets, from a line's fresh start: 16 where a spare bit is set, 7 where no talk listens, 8 where it doesn't match; and one
-- that ends a talk of the thermostat's is passed on or dropped.
-- Assumes nothing.
use Prim.Native.Nat.{ℕ, suc, ◌≤◌}
use mathlib.Core.Path.{◌≡◌, refl, sym, ap, ◌∙◌}
use mathlib.Core.Logic.{◌⊎◌, inl, inr, ⊎_elim}
use mathlib.Core.Bool.{false}
use native.Mathlib.Omega.{arith}
use Rattle.word.proofs.Clash.{clash}
use Rattle.refusals.specs.declared.Refusal.{Refusal}
use Rattle.refusals.specs.declared.Refusal.TheVariants.{OutOfTime, NoMatch, SpareBits}
use Rattle.word.specs.declared.Frame.{Frame}
use Rattle.word.specs.Frame.{matches_of}
use Rattle.word.specs.Checks.{Fails}
use Rattle.word.proofs.Good.{spare_fails}
use Rattle.turns.specs.Line.{Line, Step}
use Rattle.turns.specs.declared.Talker.{Talker}
use Rattle.turns.specs.declared.Talker.TheVariants.{Thermostat, Modbus}
use Rattle.turns.specs.declared.Turn.{Turn}
use Rattle.turns.specs.declared.Turn.TheVariants.{Rest, Talk}
use Rattle.turns.specs.Turns.{refusal, boiler_checks}
use Rattle.turns.specs.Events.{Event, boiler, beat, clock, Events, passed, dropped, refused, sent, note_of}
use Rattle.turns.specs.History.{do_of, line_at, said_at, notes}
use Rattle.turns.specs.Scene.{Talks}
use Rattle.turns.specs.Talks.{Sound, Listens, Meets}
use Rattle.turns.specs.Relay.{Answered}
use Rattle.turns.proofs.Moves.{Deaf, boils}
use Rattle.turns.proofs.Clock.{clock_suc, clock_mono, side}
use Rattle.turns.proofs.Happens.{Unanswered, Happens, passing, resting, nobody, relay_sent, order_sent, talking, relay_silent, happens}
use Rattle.turns.proofs.Happens.{order_silent, relay_held, relay_refused, order_answered, relay_answered, relay_lost, boiler_refused}
use Rattle.turns.proofs.Happens.{order_lacking, order_taken, order_busy}
use Rattle.turns.proofs.Refusals.{of_boiler, word_boiler, at_rest, too_early, too_late, no_match}
use Rattle.turns.proofs.Turned.{same_or, Past, TalkAt, TurnAt}
use Rattle.turns.proofs.Standing.{H, Known, known, latest_once}

module _ (h : Events) where
  -- a talk that goes on isn't over; nor one whose answer comes only now
  goes_on : (n : ℕ) (x : Talker) (j : ℕ) (q : Frame) → Talks (H h) n x j q → Past h (notes h) n j q → ⊥
  goes_on n x j q o past =
      ⊎_elim
      (λ z. o.first past.0 z.0 past.1 z.1)
      (λ z. let up = clock_mono h (suc past.0) n past.1 in omega (arith, o.short, z.1))
      past.2.by

  answered_now : (k : ℕ) (b : Frame) (j : ℕ) (f : Frame) → Answered (H h) k b j f → Past h (notes h) k j f → ⊥
  answered_now k b j f an past =
      ⊎_elim
      (λ z. an.first past.0 z.0 past.1 z.1)
      (λ z. let up = clock_mono h (suc past.0) (suc k) (omega (arith, past.1)) in omega (arith, an.answers.upto, z.1))
      past.2.by

  -- ---- 16, 7 and 8

  refused_with : (n : ℕ) (b : Frame) (r : Refusal) → h n ≡ boiler b → Fails (boiler_checks (line_at h n) b) r → notes h n ≡ refused r
  unfolding said_at refusal
  refused_with n b r is fails =
      ap (λ (e : Event). note_of (do_of (line_at h n) e).said) is ∙ ap (λ (S : Step). note_of S.said) (of_boiler (line_at h n) b fails)

  module _ (n : ℕ) (b : Frame) (sound : Sound (H h) n b) where
    abbrev L : Line
    L = line_at h n

    listening : (x : Talker) (q : Frame) (a u : ℕ) → TalkAt h (notes h) n x q a → 84 ≤ a → a ≤ 874 → Listens (H h) n q
    listening x q a u o lo hi = record {
      x = x;
      j = o.j;
      talks = record { latest = o.latest; short = omega (arith, o.out.age, o.out.short); first = o.out.first };
      from = omega (arith, o.out.age);
      upto = omega (arith, o.out.age);
    }

    deaf : (t : Turn) → L.turn ≡ t → TurnAt h (notes h) n t L.last → ((q : Frame) → Listens (H h) n q → ⊥) → Fails (boiler_checks L b) OutOfTime
    deaf (Rest r) is o none = at_rest b L sound.good sound.typed r is
    deaf (Talk x q a u) is o none =
        ⊎_elim
        (λ early. too_early b L sound.good sound.typed x q a u is early)
        (λ lo.
        ⊎_elim
        (λ late. too_late b L sound.good sound.typed x q a u is late)
        (λ hi. absurd (none q (listening x q a u o lo hi)))
        (side 874 a))
        (side a 84)

    unlike : (t : Turn) → L.turn ≡ t → TurnAt h (notes h) n t L.last → (q : Frame) (o : Listens (H h) n q) → matches_of q.word b.word ≡ false →
        Fails (boiler_checks L b) NoMatch
    unlike (Rest r) is rests q o off =
        absurd (goes_on n o.x o.j q o.talks (rests.all o.j o.x q o.talks.latest.before o.talks.latest.out))
    unlike (Talk y p a u) is talks q o off =
        let same = latest_once h n o.x y o.j talks.j q p o.talks.latest talks.latest in
        let here : notes h o.j ≡ sent o.x q = o.talks.latest.out in
        let there : notes h o.j ≡ sent y p = rw same talks.latest.out in
        let word : p ≡ q = cc in
        let out = ap (λ (z : ℕ). clock h (suc z)) same in
        no_match b L sound.good sound.typed y p a u is (omega (arith, o.from, talks.out.age)) (omega (arith, o.upto, talks.out.age))
        (rw word off)

  pub boiler_meets : Meets (H h)
  boiler_meets = record {
    seven = λ n b sound none. refused_with n b OutOfTime sound.frame (deaf n b sound (line_at h n).turn refl (known h n).turn none);
    eight = λ n b q sound o off. refused_with n b NoMatch sound.frame (unlike n b sound (line_at h n).turn refl (known h n).turn q o off);
    sixteen = λ n b is even set. refused_with n b SpareBits is (word_boiler b (line_at h n) (spare_fails b.word even set));
  }

  -- ---- an answer to the thermostat

  module _ (k : ℕ) (b : Frame) (j : ℕ) (f : Frame) (an : Answered (H h) k b j f) where
    -- what is out is f
    record Mine (x : Talker) (q : Frame) (a : ℕ) : Type 0 where
      talker : Thermostat ≡ x
      frame : f ≡ q
      from : 84 ≤ a
      upto : a ≤ 874

    mine : (x : Talker) (q : Frame) (a : ℕ) → TalkAt h (notes h) k x q a → Mine x q a
    mine x q a o =
        ⊎_elim
        (λ (is : j ≡ o.j).
        let cl = clock_suc h k in
        let none : beat (h k) ≡ 0 = ap beat an.answers.frame in
        let here : notes h o.j ≡ sent Thermostat f = rw is at an.own in
        let there = o.latest.out in
        let out = ap (λ (z : ℕ). clock h (suc z)) is in
        record {
          talker = cc;
          frame = cc;
          from = omega (arith, an.answers.from, o.out.age);
          upto = omega (arith, an.answers.upto, o.out.age);
        })
        (λ off. absurd (answered_now k b j f an (o.others j Thermostat f an.answers.after off an.own)))
        (same_or j o.j)

    unheard : (t : Turn) (x : Talker) (c : Frame) → h k ≡ boiler c → TurnAt h (notes h) k t x → Unanswered (boiler c) t → ⊥
    unfolding Deaf
    unheard (Rest r) x c e o d = answered_now k b j f an (o.all j Thermostat f an.answers.after an.own)
    unheard (Talk y q a u) x c e o d =
        let m = mine y q a o in
        let is : boiler c ≡ boiler b = sym e ∙ an.answers.frame in
        d b is (rw (← m.frame) an.answers.matches) m.from m.upto

    meets : {l : Line} {e : Event} {S : Step} → Happens l e S → h k ≡ e → Known h k l → (note_of S.said ≡ passed b) ⊎ (note_of S.said ≡ dropped)
    meets (passing l) e o = let z = ap boils (sym e ∙ an.answers.frame) in absurd (omega arith)
    meets (resting l r lt) e o = let z = ap boils (sym e ∙ an.answers.frame) in absurd (omega arith)
    meets (nobody l r ge eh eo) e o = let z = ap boils (sym e ∙ an.answers.frame) in absurd (omega arith)
    meets (relay_sent l r g t ge eh first) e o = let z = ap boils (sym e ∙ an.answers.frame) in absurd (omega arith)
    meets (order_sent l r w u ge eo first) e o = let z = ap boils (sym e ∙ an.answers.frame) in absurd (omega arith)
    meets (talking l x q a u lt) e o = let z = ap boils (sym e ∙ an.answers.frame) in absurd (omega arith)
    meets (relay_silent l q a u ge) e o = let z = ap boils (sym e ∙ an.answers.frame) in absurd (omega arith)
    meets (order_silent l q a u ge) e o = let z = ap boils (sym e ∙ an.answers.frame) in absurd (omega arith)
    meets (relay_held l g) e o = let z = ap boils (sym e ∙ an.answers.frame) in absurd (omega arith)
    meets (relay_refused l g r) e o = let z = ap boils (sym e ∙ an.answers.frame) in absurd (omega arith)
    meets (order_answered l q a u c ma lo hi) e o = let not-mine = (mine Modbus q a o.turn).talker in clash cc
    meets (relay_answered l q a u c ma lo hi eh le) e o = let is : boiler c ≡ boiler b = sym e ∙ an.answers.frame in inl (let same : c ≡ b = cc in ap passed same)
    meets (relay_lost l q a u c ma lo hi lost) e o = inr refl
    meets (boiler_refused l c r un) e o = absurd (unheard l.turn l.last c e o.turn un)
    meets (order_lacking l w lack) e o = let z = ap boils (sym e ∙ an.answers.frame) in absurd (omega arith)
    meets (order_taken l w has free) e o = let z = ap boils (sym e ∙ an.answers.frame) in absurd (omega arith)
    meets (order_busy l w has under) e o = let z = ap boils (sym e ∙ an.answers.frame) in absurd (omega arith)

    pub met : (notes h k ≡ passed b) ⊎ (notes h k ≡ dropped)
    unfolding said_at
    met = meets (happens (line_at h k) (h k)) refl (known h k)
