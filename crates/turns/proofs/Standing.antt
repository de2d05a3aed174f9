-- Where a line stands, from its fresh start: it is known at each event since when it rests or which frame is out (`Turned`), who waits
-- (`Waiting`), and whose frames these are (`Kept`); and a history says no more than one such thing.
--     known                             at each event
--     latest_once, since_once, talks_on   one frame is the latest; a talk is over once, and the line rests since then; it doesn't rest while it talks
-- Assumes nothing.
use Prim.Native.Nat.{ℕ, zero, suc, ◌<◌}
use mathlib.Core.Path.{◌≡◌, refl, ap}
use mathlib.Core.Logic.{⊎_elim}
use native.Mathlib.Omega.{arith}
use Rattle.word.specs.declared.Frame.{Frame}
use Rattle.turns.specs.Line.{Line, Step}
use Rattle.turns.specs.declared.Talker.{Talker}
use Rattle.turns.specs.Events.{Event, beat, clock, Events, sent, note_of}
use Rattle.turns.specs.History.{line_at, said_at, notes}
use Rattle.turns.specs.Sight.{line_scene}
use Rattle.turns.specs.Scene.{Scene, Over, Latest, RestsSince, fresh, ended, nobody}
use Rattle.turns.proofs.Clock.{clock_suc, clock_mono, meet}
use Rattle.turns.proofs.Happens.{Happens, happens}
use Rattle.turns.proofs.Turned.{TalkAt, TurnAt, turn_next}
use Rattle.turns.proofs.Kept.{KeptAt, kept_next}
use Rattle.turns.proofs.Waiting.{Alone, alone_next, WaitingAt, waiting_next}

module _ (h : Events) where
  abbrev pub H : Scene
  H = line_scene h (notes h)

  pub record Known (n : ℕ) (l : Line) : Type 0 where
    pub turn : TurnAt h (notes h) n l.turn l.last
    pub waiting : WaitingAt h (notes h) n l.held l.order
    pub kept : KeptAt h (notes h) n l.turn l.held
    pub alone : Alone l.turn l.order

  next : (n : ℕ) {l : Line} {e : Event} {S : Step} → Happens l e S → h n ≡ e → notes h n ≡ note_of S.said → Known n l → Known (suc n) S.line
  next n x e es o = record {
    turn = turn_next h (notes h) n x e es o.turn;
    waiting = waiting_next h (notes h) n x e es o.alone o.waiting;
    kept = kept_next h (notes h) n x e es o.kept;
    alone = alone_next x o.alone;
  }

  pub known : (n : ℕ) → Known n (line_at h n)
  unfolding line_at said_at clock
  known zero = record {
    turn = record {
      c = 0;
      since = fresh (λ m x q lt on. omega arith);
      begun = omega arith;
      count = refl;
      last = nobody (λ m x q lt on. omega arith);
      all = λ i y p lt on. absurd (omega arith);
    };
    waiting = record { relay = λ w. omega (arith, w.before); asks = λ w. omega (arith, w.before) };
    kept = record { kept = tt; out = tt };
    alone = tt;
  }
  known (suc n) = next n (happens (line_at h n) (h n)) refl refl (known n)

  -- ---- a talk ends once, and the line rests since then

  over_before : (j : ℕ) (q : Frame) (k m : ℕ) → Over H j q k → Over H j q m → k < m → ⊥
  over_before j q k m o p lt =
      ⊎_elim
      (λ x. p.first k x.0 lt x.1)
      (λ x.
      let up = clock_mono h (suc k) m lt in
      let cl = clock_suc h m in
      ⊎_elim (λ y. omega (arith, x.1, y.1.upto)) (λ y. let one : beat (h m) ≡ 1 = ap beat y.0 in omega (arith, x.1, y.1)) p.by)
      o.by

  pub latest_once : (n : ℕ) (x y : Talker) (i j : ℕ) (p q : Frame) → Latest H n x i p → Latest H n y j q → i ≡ j
  latest_once n x y i j p q a b =
      meet i j (λ l. a.hushed j y q l b.before b.out) (λ l. b.hushed i x p l a.before a.out)

  pub since_once : (n : ℕ) {c d : ℕ} → RestsSince H n c → RestsSince H n d → c ≡ d
  since_once n (fresh u) (fresh v) = refl
  since_once n (fresh u) (ended x j q k l o lt) = absurd (u j x q l.before l.out)
  since_once n (ended x j q k l o lt) (fresh u) = absurd (u j x q l.before l.out)
  since_once n (ended x i p k a o lt) (ended y j q m b r up) =
      let is = latest_once n x y i j p q a b in
      let here : notes h i ≡ sent x p = a.out in
      let there : notes h i ≡ sent y q = rw is b.out in
      let same : p ≡ q = cc in
      let r' : Over H i p m = rw (is, same) r in
      ap (λ (z : ℕ). clock h (suc z)) (meet k m (over_before i p k m o r') (over_before i p m k r' o))

  -- a line that talks doesn't rest
  pub talks_on : (n : ℕ) (x : Talker) (q : Frame) (a : ℕ) {c : ℕ} → TalkAt h (notes h) n x q a → RestsSince H n c → ⊥
  talks_on n x q a o (fresh u) = u o.j x q o.latest.before o.latest.out
  talks_on n x q a o (ended y j p k l over lt) =
      let is = latest_once n x y o.j j q p o.latest l in
      let here : notes h o.j ≡ sent x q = o.latest.out in
      let there : notes h o.j ≡ sent y p = rw is l.out in
      let same : q ≡ p = cc in
      let over' : Over H o.j q k = rw (is, same) over in
      ⊎_elim
      (λ z. o.out.first k z.0 lt z.1)
      (λ z. let up = clock_mono h (suc k) n lt in omega (arith, o.out.age, o.out.short, z.1))
      over'.by
