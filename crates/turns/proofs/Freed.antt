-- An order's life, read off a line, and what the end of the thermostat's talk makes of it: the order that waits goes next.
-- Assumes nothing.
use Rattle.std.specs.Prelude.{Option, Some, None}
use Prim.Native.Nat.{ℕ, ◌+◌, ◌-◌, ◌≤◌, max}
use native.Mathlib.Omega.{arith}
use Rattle.word.specs.declared.Frame.{Frame}
use Rattle.turns.specs.declared.Query.{Query}
use Rattle.turns.specs.Line.{Line}
use Rattle.turns.specs.declared.Talker.{Talker}
use Rattle.turns.specs.declared.Talker.TheVariants.{Thermostat, Modbus}
use Rattle.turns.specs.declared.Turn.{Turn}
use Rattle.turns.specs.declared.Turn.TheVariants.{Rest, Talk}
use Rattle.turns.specs.Turns.{older, aged}
use Rattle.turns.specs.Events.{tick, boiler, Note, nothing}
use Rattle.turns.proofs.Moves.{Life, none, waits, talks, Other, Move, idle, wait}

-- how many ticks a waiting order's outcome is away at most
abbrev pub left : Turn → Talker → ℕ
left (Rest r) Thermostat = max 1 (100 - r) + 875
left (Rest r) Modbus = max 1 (100 - r) + 1850
left (Talk o q a t) l = max 1 (875 - a) + 975

abbrev pub life_of : Turn → Option (Query × ℕ) → Talker → Life
life_of (Rest r) None l = none
life_of (Rest r) (Some (w, u)) l = waits w u (left (Rest r) l)
life_of (Talk Thermostat q a t) None l = none
life_of (Talk Thermostat q a t) (Some (w, u)) l = waits w u (left (Talk Thermostat q a t) l)
life_of (Talk Modbus q a t) o l = talks q a t

abbrev pub life : Line → Life
life l = life_of l.turn l.order l.last

-- where A w q says that q is the frame of the query w
module _ (A : Query → Frame → Type 0) where
  -- by a frame
  pub freed : (f : Frame) (s : Note) (q : Frame) (a u : ℕ) (o : Option (Query × ℕ)) (x : Talker) → Other s →
      Move 1950 A (boiler f) s (life_of (Talk Thermostat q a u) o x) (life_of (Rest 0) o Thermostat)
  freed f s q a u None x c = idle c
  freed f s q a u (Some (w, v)) x c = wait w v (left (Talk Thermostat q a u) x) v (left (Rest 0) Thermostat) c (λ _. omega arith) (omega arith) (omega arith)

  -- by silence
  pub falls_silent : (q : Frame) (a u : ℕ) (o : Option (Query × ℕ)) (x : Talker) → 875 ≤ older a →
      Move 1950 A tick nothing (life_of (Talk Thermostat q a u) o x) (life_of (Rest 0) (aged o) Thermostat)
  unfolding aged
  falls_silent q a u None x ge = idle (omega arith)
  falls_silent q a u (Some (w, v)) x ge = wait w v (left (Talk Thermostat q a u) x) (older v) (left (Rest 0) Thermostat) (omega arith) (λ s. omega arith)
      (omega arith)
      (omega arith)
