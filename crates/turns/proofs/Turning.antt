-- The turns of a line, from its fresh start: what goes out goes out in its turn, and where something waits and the line has rested, something
-- does.
--     spoken     what is known where a frame goes out
--     starting   that one does
--     turns      the clauses of the promise
-- Assumes nothing.
use Rattle.std.specs.Prelude.{Option, Some, None, is_some}
use Prim.Native.Nat.{ℕ, ◌≤◌, ◌<◌}
use mathlib.Core.Path.{◌≡◌, refl, sym, ap, ◌∙◌}
use native.Mathlib.Omega.{arith}
use Rattle.word.specs.declared.Frame.{Frame}
use Rattle.turns.specs.Line.{Line, Step}
use Rattle.turns.specs.declared.Query.{Query}
use Rattle.turns.specs.declared.Talker.{Talker}
use Rattle.turns.specs.declared.Talker.TheVariants.{Thermostat, Modbus}
use Rattle.turns.specs.Turns.{older}
use Rattle.turns.specs.Events.{Event, tick, beat, Events, sent, note_of}
use Rattle.turns.specs.History.{line_at, said_at, notes}
use Rattle.turns.specs.Scene.{Last, Waits}
use Rattle.turns.specs.Talks.{Rested, Turns}
use Rattle.turns.proofs.Clock.{clock_suc}
use Rattle.turns.proofs.Happens.{own, RelayFirst, OrderFirst, Happens, passing, resting, relay_sent, order_sent, talking, relay_silent, happens}
use Rattle.turns.proofs.Happens.{order_silent, relay_held, relay_refused, order_answered, relay_answered, relay_lost, boiler_refused}
use Rattle.turns.proofs.Happens.{order_lacking, order_taken, order_busy}
use Rattle.turns.proofs.Happens as cases
use Rattle.turns.proofs.Turned.{speaks, RestAt}
use Rattle.turns.proofs.Waiting.{Waiting, WaitingAt}
use Rattle.turns.proofs.Standing.{H, Known, known, since_once, talks_on}

module _ (h : Events) where
  -- ---- what goes out

  full_rest : (n r : ℕ) (x : Talker) → h n ≡ tick → 100 ≤ older r → RestAt h (notes h) n r x → Rested (H h) n
  full_rest n r x e ge o =
      let cl = clock_suc h n in
      let one : beat (h n) ≡ 1 = ap beat e in
      record { ticks = e; c = o.c; since = o.since; full = omega (arith, o.count, o.begun) }

  -- where the thermostat goes first, and where the order does
  after_relay : (n : ℕ) (o : Option (Query × ℕ)) (z : Talker) → RelayFirst o z → Waiting h (notes h) n Modbus (is_some o) → Last (H h) n z → Waits (H h) Modbus n → Last (H h) n Modbus
  after_relay n None z first none last w = absurd (none w)
  after_relay n (Some (v, u)) Modbus first some last w = last
  after_relay n (Some (v, u)) Thermostat first some last w = absurd first

  after_order : (n : ℕ) (x : Option (Frame × ℕ)) (z : Talker) → OrderFirst x z → Waiting h (notes h) n Thermostat (is_some x) → Last (H h) n z →
      Waits (H h) Thermostat n → Last (H h) n Thermostat
  after_order n None z first none last w = absurd (none w)
  after_order n (Some (f, t)) Thermostat first some last w = last
  after_order n (Some (f, t)) Modbus first some last w = absurd first

  -- all that is known where a frame goes out for the talker x
  record Sent (n : ℕ) (x : Talker) : Type 0 where
    rested : Rested (H h) n
    waited : Waits (H h) x n
    fair : (y : Talker) → Waits (H h) y n → (x ≡ y → ⊥) → Last (H h) n y

  relay_goes : (n r : ℕ) (l : Line) (f : Frame) (t : ℕ) → h n ≡ tick → 100 ≤ older r → l.held ≡ Some (f, t) → RelayFirst l.order l.last →
      RestAt h (notes h) n r l.last → WaitingAt h (notes h) n l.held l.order → Sent n Thermostat
  relay_goes n r l f t e ge eh first o w = record {
    rested = full_rest n r l.last e ge o;
    waited = rw eh at w.relay;
    fair = λ y on off. by y on off;
  }
    where
      by : (y : Talker) → Waits (H h) y n → (Thermostat ≡ y → ⊥) → Last (H h) n y
      by Thermostat on off = absurd (off refl)
      by Modbus on off = after_relay n l.order l.last first w.asks o.last on

  order_goes : (n r : ℕ) (l : Line) (v : Query) (u : ℕ) → h n ≡ tick → 100 ≤ older r → l.order ≡ Some (v, u) → OrderFirst l.held l.last →
      RestAt h (notes h) n r l.last → WaitingAt h (notes h) n l.held l.order → Sent n Modbus
  order_goes n r l v u e ge eo first o w = record {
    rested = full_rest n r l.last e ge o;
    waited = rw eo at w.asks;
    fair = λ y on off. by y on off;
  }
    where
      by : (y : Talker) → Waits (H h) y n → (Modbus ≡ y → ⊥) → Last (H h) n y
      by Thermostat on off = after_order n l.held l.last first w.relay o.last on
      by Modbus on off = absurd (off refl)

  spoken : (n : ℕ) {l : Line} {e : Event} {S : Step} → Happens l e S → h n ≡ e → Known h n l → (x : Talker) (f : Frame) → note_of S.said ≡ sent x f →
      Sent n x
  spoken n (passing l) e o x f on = let z = ap speaks on in absurd (omega arith)
  spoken n (resting l r lt) e o x f on = let z = ap speaks on in absurd (omega arith)
  spoken n (cases.nobody l r ge eh eo) e o x f on = let z = ap speaks on in absurd (omega arith)
  spoken n (relay_sent l r g t ge eh first) e o x f on =
      let is : Thermostat ≡ x = cc in
      rw (← is) (relay_goes n r l g t e ge eh first o.turn o.waiting)
  spoken n (order_sent l r w u ge eo first) e o x f on =
      let is : Modbus ≡ x = cc in
      rw (← is) (order_goes n r l w u e ge eo first o.turn o.waiting)
  spoken n (talking l y q a u lt) e o x f on = let z = ap speaks on in absurd (omega arith)
  spoken n (relay_silent l q a u ge) e o x f on = let z = ap speaks on in absurd (omega arith)
  spoken n (order_silent l q a u ge) e o x f on = let z = ap speaks on in absurd (omega arith)
  spoken n (relay_held l g) e o x f on = let z = ap speaks on in absurd (omega arith)
  spoken n (relay_refused l g m) e o x f on = let z = ap speaks on in absurd (omega arith)
  spoken n (order_answered l q a u b ma lo hi) e o x f on = let z = ap speaks on in absurd (omega arith)
  spoken n (relay_answered l q a u b ma lo hi eh le) e o x f on = let z = ap speaks on in absurd (omega arith)
  spoken n (relay_lost l q a u b ma lo hi lost) e o x f on = let z = ap speaks on in absurd (omega arith)
  spoken n (boiler_refused l b m un) e o x f on = let z = ap speaks on in absurd (omega arith)
  spoken n (order_lacking l w lack) e o x f on = let z = ap speaks on in absurd (omega arith)
  spoken n (order_taken l w has free) e o x f on = let z = ap speaks on in absurd (omega arith)
  spoken n (order_busy l w has under) e o x f on = let z = ap speaks on in absurd (omega arith)

  -- ---- and that something does

  -- nobody waits
  unwaited : (n : ℕ) (l : Line) (x : Talker) → l.held ≡ None → l.order ≡ None → WaitingAt h (notes h) n l.held l.order → Waits (H h) x n → ⊥
  unwaited n l Thermostat eh eo w on = (rw eh at w.relay) on
  unwaited n l Modbus eh eo w on = (rw eo at w.asks) on

  short : (n r : ℕ) (x : Talker) → older r < 100 → RestAt h (notes h) n r x → Rested (H h) n → ⊥
  short n r x lt o full =
      let is = since_once h n o.since full.since in
      let cl = clock_suc h n in
      let one : beat (h n) ≡ 1 = ap beat full.ticks in
      omega (arith, o.count, o.begun, full.full)

  starting : (n : ℕ) {l : Line} {e : Event} {S : Step} → Happens l e S → h n ≡ e → Known h n l → (x : Talker) → Rested (H h) n → Waits (H h) x n →
      (y : Talker) × (f : Frame) × (note_of S.said ≡ sent y f)
  starting n (passing l) e o x full on = let z = ap beat (sym e ∙ full.ticks) in absurd (omega arith)
  starting n (resting l r lt) e o x full on = absurd (short n r l.last lt o.turn full)
  starting n (cases.nobody l r ge eh eo) e o x full on = absurd (unwaited n l x eh eo o.waiting on)
  starting n (relay_sent l r g t ge eh first) e o x full on = (Thermostat, g, refl)
  starting n (order_sent l r w u ge eo first) e o x full on = (Modbus, own l.status w, refl)
  starting n (talking l y q a u lt) e o x full on = absurd (talks_on h n y q a o.turn full.since)
  starting n (relay_silent l q a u ge) e o x full on = absurd (talks_on h n Thermostat q a o.turn full.since)
  starting n (order_silent l q a u ge) e o x full on = absurd (talks_on h n Modbus q a o.turn full.since)
  starting n (relay_held l g) e o x full on = let z = ap beat (sym e ∙ full.ticks) in absurd (omega arith)
  starting n (relay_refused l g m) e o x full on = let z = ap beat (sym e ∙ full.ticks) in absurd (omega arith)
  starting n (order_answered l q a u b ma lo hi) e o x full on = let z = ap beat (sym e ∙ full.ticks) in absurd (omega arith)
  starting n (relay_answered l q a u b ma lo hi eh le) e o x full on = let z = ap beat (sym e ∙ full.ticks) in absurd (omega arith)
  starting n (relay_lost l q a u b ma lo hi lost) e o x full on = let z = ap beat (sym e ∙ full.ticks) in absurd (omega arith)
  starting n (boiler_refused l b m un) e o x full on = let z = ap beat (sym e ∙ full.ticks) in absurd (omega arith)
  starting n (order_lacking l w lack) e o x full on = let z = ap beat (sym e ∙ full.ticks) in absurd (omega arith)
  starting n (order_taken l w has free) e o x full on = let z = ap beat (sym e ∙ full.ticks) in absurd (omega arith)
  starting n (order_busy l w has under) e o x full on = let z = ap beat (sym e ∙ full.ticks) in absurd (omega arith)

  pub turns : Turns (H h)
  unfolding line_at said_at
  turns = record {
    rested = λ n x f on. (said n x f on).rested;
    waited = λ n x f on. (said n x f on).waited;
    starts = λ n x full on. starting n (happens (line_at h n) (h n)) refl (known h n) x full on;
    fair = λ n x y f on w off. (said n x f on).fair y w off;
  }
    where
      said : (n : ℕ) (x : Talker) (f : Frame) → notes h n ≡ sent x f → Sent n x
      said n x f on = spoken n (happens (line_at h n) (h n)) refl (known h n) x f on
