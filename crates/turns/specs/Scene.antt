-- What can be seen of the talk on one line, and 01's words for it: when a talk is over, since when the line rests, who waits, who talked last.
-- It is said once, of whatever can be seen of a history; a line is one such thing (`line_scene` of Sight), and each line of the box is another.
-- Event i is a frame or an order coming, event j a frame going out, event k what ends its talk.
-- Nothing here knows a line. Assumes nothing: these are definitions.
use Rattle.std.specs.Prelude.{ℕ, suc, ◌-◌, ◌<◌, ◌≡◌, ◌⊎◌}
use Rattle.refusals.specs.declared.Refusal.{Refusal}
use Rattle.word.specs.declared.Frame.{Frame}
use Rattle.turns.specs.declared.Talker.{Talker}
use Rattle.turns.specs.declared.Talker.TheVariants.{Thermostat, Modbus}
use Rattle.turns.specs.Promise.{Answers}

pub record Scene : Type 1 where
  -- how many of the first n events are ticks; and event n is one
  pub clock : ℕ → ℕ
  pub Tick : ℕ → Type 0
  -- event n is this thermostat frame, and it "becomes the held frame"; it is an order, and it is accepted; it is this boiler frame
  pub Holds : ℕ → Frame → Type 0
  pub Takes : ℕ → Type 0
  pub Boils : ℕ → Frame → Type 0
  -- this frame goes out at event n, for that talker
  pub Goes : Talker → ℕ → Frame → Type 0
  -- to event n it is said that this frame is passed on to the thermostat, that one is dropped, that one is refused with this refusal
  pub Passes : ℕ → Frame → Type 0
  pub Drops : ℕ → Type 0
  pub Refuses : ℕ → Refusal → Type 0

-- how many ticks come after event i and before event n
abbrev pub past_on : Scene → ℕ → ℕ → ℕ
past_on H i n = H.clock n - H.clock (suc i)

-- the boiler frame b that comes as event k answers the frame q that went out at event j: it matches, 84 to 874 ticks after
abbrev pub AnswersOn : Scene → ℕ → Frame → ℕ → Frame → Type 0
AnswersOn H = Answers (past_on H) H.Boils

-- ---- a talk

-- the frame q, which goes out at event j, has no answer before event n
abbrev pub Unanswered : Scene → ℕ → Frame → ℕ → Type 0
Unanswered H j q n = (m : ℕ) (c : Frame) → m < n → AnswersOn H j q m c → ⊥

-- "A boiler frame that matches while the age is 84 to 874 ends the talk"; "at 875 the talk ends". It ends at event k, whoever talks, and
-- whatever becomes of the boiler's frame: "it is dropped and the talk still ends"
pub record Over (H : Scene) (j : ℕ) (q : Frame) (k : ℕ) : Type 0 where
  pub after : j < k
  pub by : ((b : Frame) × AnswersOn H j q k b) ⊎ (H.Tick k × (past_on H j (suc k) ≡ 875))
  pub first : Unanswered H j q k

-- no frame goes out before event n; and none after event j
abbrev pub Unspoken : Scene → ℕ → Type 0
Unspoken H n = (m : ℕ) (x : Talker) (q : Frame) → m < n → H.Goes x m q → ⊥

abbrev pub Hushed : Scene → ℕ → ℕ → Type 0
Hushed H j n = (m : ℕ) (x : Talker) (q : Frame) → j < m → m < n → H.Goes x m q → ⊥

-- the frame q is the last that went out before event n: at event j, for the talker x
pub record Latest (H : Scene) (n : ℕ) (x : Talker) (j : ℕ) (q : Frame) : Type 0 where
  pub before : j < n
  pub out : H.Goes x j q
  pub hushed : Hushed H j n

-- it talks still
pub record Talks (H : Scene) (n : ℕ) (x : Talker) (j : ℕ) (q : Frame) : Type 0 where
  pub latest : Latest H n x j q
  pub short : past_on H j n < 875
  pub first : Unanswered H j q n

-- ---- rest

-- the line rests before event n, and the clock stood at c when it began to: "Fresh: rest 0"; where a talk ends "rest becomes 0"
pub data RestsSince (H : Scene) (n : ℕ) : ℕ → Type 0 where
  fresh : Unspoken H n → RestsSince H n (H.clock 0)
  ended : (x : Talker) (j : ℕ) (q : Frame) (k : ℕ) → Latest H n x j q → Over H j q k → k < n → RestsSince H n (H.clock (suc k))

-- ---- who waits, and who talked last

abbrev pub Comes : Scene → Talker → ℕ → Type 0
Comes H Thermostat i = (f : Frame) × H.Holds i f
Comes H Modbus i = H.Takes i

-- a talker waits before event n: what came from it at event i hasn't gone out, nor anything else of it since
pub record Waits (H : Scene) (x : Talker) (n : ℕ) : Type 0 where
  pub i : ℕ
  pub before : i < n
  pub comes : Comes H x i
  pub unsent : (m : ℕ) (q : Frame) → i < m → m < n → H.Goes x m q → ⊥

-- "Fresh: .. last talker Modbus"
pub data Last (H : Scene) (n : ℕ) : Talker → Type 0 where
  nobody : Unspoken H n → Last H n Modbus
  somebody : (x : Talker) (j : ℕ) (q : Frame) → Latest H n x j q → Last H n x
