-- What can be seen of the talk on line k of the box, where the inputs h come and s is given to each, in a wrapping W. `Turns`, `Meets` and `Relay` of
-- the crate turns, of this, are what is promised of each line's turns and to its thermostat, in the box's words.
-- Nothing here knows how the box works. Assumes nothing: these are definitions.
use Rattle.std.specs.Prelude.{ℕ, ◌≡◌}
use Rattle.refusals.specs.Numbers.{number_of}
use Rattle.word.specs.declared.Frame.{Frame}
use Rattle.turns.specs.Events.{sent}
use Rattle.turns.specs.Scene.{Scene}
use Rattle.modbus.specs.Wrapping.{Wrapping}
use Rattle.promises.specs.declared.Asking.{Asking}
use Rattle.promises.specs.Notes.{BoxNote, held, passed, dropped, accepted, refused}
use Rattle.promises.specs.Inputs.{Input, Inputs, Gifts, thermostat, Ticks, Boils, clock}
use Rattle.promises.specs.Demand3.{AsksFor}
use Rattle.promises.specs.Projection.{FrameOn}

-- an input that is told t: it is a thermostat frame on line k, and it is held; it is a message that asks an order of line k, and it is accepted
pub record HeldOn (k : ℕ) (f : Frame) (x : Input) (t : BoxNote) : Type 0 where
  pub frame : x ≡ thermostat k f
  pub is_held : t ≡ held

pub record TakenOn (W : Wrapping) (k : ℕ) (x : Input) (t : BoxNote) : Type 0 where
  pub asking : Asking
  pub asked : AsksFor W asking x
  pub unit : asking.order.line ≡ k
  pub taken : t ≡ accepted

-- it is a boiler frame on line k, and it is passed on, or dropped; it is a frame on line k, and it is refused
pub record PassedOn (k : ℕ) (b : Frame) (x : Input) (t : BoxNote) : Type 0 where
  pub frame : Boils k b x
  pub is_passed : t ≡ passed b

pub record DroppedOn (k : ℕ) (x : Input) (t : BoxNote) : Type 0 where
  pub b : Frame
  pub frame : Boils k b x
  pub is_dropped : t ≡ dropped

pub record RefusedOn (k : ℕ) (n : ℕ) (x : Input) (t : BoxNote) : Type 0 where
  pub frame : FrameOn k x
  pub is_refused : t ≡ refused n

abbrev pub box_scene : Wrapping → ℕ → Inputs → Gifts → Scene
box_scene W k h s = record {
  clock = clock h;
  Tick = λ n. Ticks (h n);
  Holds = λ n f. HeldOn k f (h n) (s n).told;
  Takes = λ n. TakenOn W k (h n) (s n).told;
  Boils = λ n b. Boils k b (h n);
  Goes = λ x n f. (s n).out k ≡ sent x f;
  Passes = λ n b. PassedOn k b (h n) (s n).told;
  Drops = λ n. DroppedOn k (h n) (s n).told;
  Refuses = λ n r. RefusedOn k (number_of r) (h n) (s n).told;
}
