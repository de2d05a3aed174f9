-- What can be seen in a line's history, of an order and of the talk: the events h that happen, and the notes s that are made of them.
-- Assumes nothing: these are definitions.
use Rattle.std.specs.Prelude.{ℕ, ◌≡◌}
use Rattle.word.specs.declared.Frame.{Frame}
use Rattle.turns.specs.declared.Query.{Query}
use Rattle.turns.specs.declared.Talker.TheVariants.{Modbus}
use Rattle.turns.specs.Events.{tick, thermostat, boiler, order, Events, past, clock}
use Rattle.turns.specs.Events.{held, passed, dropped, refused, accepted, exception, sent, answer, no_answer, Notes, about, ends}
use Rattle.turns.specs.Exchange.{Own, Lacks}
use Rattle.turns.specs.Promise.{View, Answers}
use Rattle.turns.specs.Scene.{Scene}

abbrev pub line_view : Events → Notes → View Query
line_view h s = record {
  past = past h;
  Tick = λ n. h n ≡ tick;
  Boils = λ w n b. h n ≡ boiler b;
  Asks = λ w n. h n ≡ order w;
  Accepts = λ n. s n ≡ accepted;
  Lacking = λ w n. s n ≡ exception 4;
  Busy = λ w n. s n ≡ exception 6;
  Sends = λ w n q. s n ≡ sent Modbus q;
  Own = λ w n q. Own s n w q;
  Lacks = λ w n. Lacks s n w;
  Ends = λ n. about (s n) ≡ ends;
  Answer = λ w k b n. s k ≡ answer b n;
  NoAnswer = λ w k n. s k ≡ no_answer n;
  place = λ w. 0;
}

-- the boiler frame b that comes as event k answers the frame q that went out at event j
abbrev pub AnswersIn : Events → ℕ → Frame → ℕ → Frame → Type 0
AnswersIn h = Answers (past h) (λ n b. h n ≡ boiler b)

-- event i is the thermostat frame f, and it is held
pub record Came (h : Events) (s : Notes) (i : ℕ) (f : Frame) : Type 0 where
  pub frame : h i ≡ thermostat f
  pub is_held : s i ≡ held

-- event i is an order, and it is accepted
pub record Took (h : Events) (s : Notes) (i : ℕ) : Type 0 where
  pub w : Query
  pub asked : h i ≡ order w
  pub taken : s i ≡ accepted

abbrev pub line_scene : Events → Notes → Scene
line_scene h s = record {
  clock = clock h;
  Tick = λ n. h n ≡ tick;
  Holds = Came h s;
  Takes = Took h s;
  Boils = λ n b. h n ≡ boiler b;
  Goes = λ x n f. s n ≡ sent x f;
  Passes = λ n b. s n ≡ passed b;
  Drops = λ n. s n ≡ dropped;
  Refuses = λ n r. s n ≡ refused r;
}
