-- The code gives what the promises speak of: whatever a function's own contract allows is, in notes and bytes, what is given to that input
-- (`gift_of`, promises/specs/History), and the box that it hands back is the one that the next input comes to (`next`); and a history is the run of these. The contracts speak of the
-- code's own structs through a reading of them (specs/Reads), which could take one number for another, or forget an order.
-- Assumes nothing.
use mathlib.Core.Path.{◌≡◌, refl, ap, ◌∙◌}
use mathlib.Core.List.{List}
use Prim.Native.Nat.{ℕ, suc}
use lib.ListN.{length}
use Rattle.word.proofs.One.{Always}
use Rattle.modbus.specs.Wire.{placed}
use Rattle.modbus.specs.declared.MessageForm.{MessageForm}
use Rattle.modbus.specs.Wrapping.{Wrapping, wrapping_of}
use Rattle.promises.specs.Notes.{box_note_of}
use Rattle.turns.specs.Idle.{all_idle}
use Rattle.line.specs.declared.Line as code_line
use Rattle.rests.specs.Reads.{at}
use Rattle.rests.proofs.all_idle.Reads as all_idle_reads
use Rattle.rests.proofs.all_idle.Kinds as all_idle_kinds
use Rattle.promises.specs.Idle.{idle_box}
use Rattle.promises.specs.Inputs.{Input, Inputs, tick, thermostat, boiler, message}
use Rattle.promises.specs.History.{next, out_at, gift_of, box_at, given}
use Rattle.promises.specs.Entries.{fresh_box}
use Rattle.promises.specs.declared.Told.{Told}
use Rattle.gateway.specs.declared.Gateway as code
use Rattle.gateway.specs.declared.Moved as code_moved
use Rattle.gateway.specs.declared.Ticked as code_ticked
use Rattle.gateway.specs.Reads.{four_of, list_of, box_of}
use Rattle.gateway.proofs.Gateway.fresh.Reads as fresh_reads
use Rattle.gateway.proofs.Gateway.fresh.Kinds as fresh_kinds
use Rattle.gateway.proofs.Gateway.tick.Reads as tick_reads
use Rattle.gateway.proofs.Gateway.tick.Kinds as tick_kinds
use Rattle.gateway.proofs.Gateway.thermostat.Reads as thermostat_reads
use Rattle.gateway.proofs.Gateway.thermostat.Kinds as thermostat_kinds
use Rattle.gateway.proofs.Gateway.boiler.Reads as boiler_reads
use Rattle.gateway.proofs.Gateway.boiler.Kinds as boiler_kinds
use Rattle.gateway.proofs.Gateway.message.Reads as message_reads
use Rattle.gateway.proofs.Gateway.message.Kinds as message_kinds

-- the wrapping of the box's form
abbrev wrapping : code.Gateway → Wrapping
wrapping g = wrapping_of g.form

-- to the input x of the box g the code tells t and hands back the box b, which has the form that it had
pub record Gives (g : code.Gateway) (x : Input) (t : Told) (b : code.Gateway) : Type 0 where
  pub told : box_note_of t ≡ (gift_of (wrapping g) (box_of g) x).told
  pub box : box_of b ≡ next (wrapping g) (box_of g) x
  pub form : b.form ≡ g.form

-- and of the room lent with it the bytes of the reply are written, and no other
abbrev pub Writes : code.Gateway → Input → List ℕ → List ℕ → Type 0
Writes g x before after = after ≡ placed (gift_of (wrapping g) (box_of g) x).wrote before

pub fresh_gives : Always fresh_kinds.ps fresh_kinds.r fresh_reads.Post (λ κs a u x. (box_of u ≡ fresh_box) × (u.form ≡ a.0))
unfolding four_of list_of
fresh_gives κs a u x p = (ap box_of p, ap (λ (g : code.Gateway). g.form) p)

pub tick_gives : Always tick_kinds.ps tick_kinds.r tick_reads.Post
    (λ κs a u x.
    let i = tick (length a.1.0.now) in
    Gives a.0 i u.told u.gateway × ((out_at u.outs ≡ (gift_of (wrapping a.0) (box_of a.0) i).out) × Writes a.0 i a.1.0.now x.1.0.now))
unfolding four_of list_of
tick_gives κs a u x p = (
  record {
    told = ap (λ (m : code_ticked.Ticked). box_note_of m.told) p.0;
    box = ap (λ (m : code_ticked.Ticked). box_of m.gateway) p.0;
    form = ap (λ (m : code_ticked.Ticked). m.gateway.form) p.0;
  },
  (ap (λ (m : code_ticked.Ticked). out_at m.outs) p.0, p.1),
)

pub thermostat_gives : Always thermostat_kinds.ps thermostat_kinds.r thermostat_reads.Post
    (λ κs a u x. Gives a.0 (thermostat a.1.0 a.1.1.0) u.told u.gateway)
unfolding four_of list_of
thermostat_gives κs a u x p = record {
  told = ap (λ (m : code_moved.Moved). box_note_of m.told) p;
  box = ap (λ (m : code_moved.Moved). box_of m.gateway) p;
  form = ap (λ (m : code_moved.Moved). m.gateway.form) p;
}

pub boiler_gives : Always boiler_kinds.ps boiler_kinds.r boiler_reads.Post
    (λ κs a u x.
    let i = boiler a.1.0 a.1.1.0 (length a.1.1.1.0.now) in
    Gives a.0 i u.told u.gateway × Writes a.0 i a.1.1.1.0.now x.1.1.1.0.now)
unfolding four_of list_of
boiler_gives κs a u x p = (
  record {
    told = ap (λ (m : code_moved.Moved). box_note_of m.told) p.0;
    box = ap (λ (m : code_moved.Moved). box_of m.gateway) p.0;
    form = ap (λ (m : code_moved.Moved). m.gateway.form) p.0;
  },
  p.1,
)

pub message_gives : Always message_kinds.ps message_kinds.r message_reads.Post
    (λ κs a u x.
    let i = message a.1.0.now (length a.1.1.0.now) in
    Gives a.0 i u.told u.gateway × Writes a.0 i a.1.1.0.now x.1.1.0.now)
unfolding four_of list_of
message_gives κs a u x p = (
  record {
    told = ap (λ (m : code_moved.Moved). box_note_of m.told) p.0;
    box = ap (λ (m : code_moved.Moved). box_of m.gateway) p.0;
    form = ap (λ (m : code_moved.Moved). m.gateway.form) p.0;
  },
  p.1,
)

-- and what the promises speak of is the run of these steps, from the fresh box on
pub given_runs : (f : MessageForm) (h : Inputs) →
    let W = wrapping_of f in
    (box_at W h 0 ≡ fresh_box) × ((n : ℕ) → (box_at W h (suc n) ≡ next W (box_at W h n) (h n)) × (given W h n ≡ gift_of W (box_at W h n) (h n)))
unfolding box_at
given_runs f h = (refl, λ n. (refl, refl))

-- what `rests::all_idle` says of the box's lines is what `idle_box_lem` of the crate promises wants of the box
pub all_idle_says : Always all_idle_kinds.ps all_idle_kinds.r all_idle_reads.Post
    (λ κs a u x. (g : code.Gateway) → a.0 ≡ g.lines → u ≡ idle_box (box_of g))
unfolding four_of
all_idle_says κs a u x p g is = p ∙ ap (λ (l : List code_line.Line). all_idle (at l 0) (at l 1) (at l 2) (at l 3)) is
