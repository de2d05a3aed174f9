-- What is promised of a line's turns (01, 'A line and its turns'), in the words of a history (Scene): who talks, when, what a boiler frame
-- meets that ends no talk, and which frames get past the line at all.
-- Nothing here knows a line. Assumes nothing: these are definitions.
use Rattle.std.specs.Prelude.{ℕ, suc, ◌+◌, ◌≤◌, ◌<◌, ◌≡◌, true, false}
use Rattle.refusals.specs.declared.Refusal.TheVariants.{OutOfTime, NoMatch, SpareBits}
use Rattle.word.specs.declared.Frame.{Frame}
use Rattle.word.specs.Frame.{even_of, spare_of, type_of, matches_of}
use Rattle.word.specs.Fields.{GoodWord}
use Rattle.turns.specs.declared.Talker.{Talker}
use Rattle.turns.specs.declared.Talker.TheVariants.{Thermostat}
use Rattle.turns.specs.Scene.{Scene, past_on, AnswersOn, RestsSince, Waits, Last, Talks}

-- the line has rested for 100 ticks, tick n among them
pub record Rested (H : Scene) (n : ℕ) : Type 0 where
  pub ticks : H.Tick n
  pub c : ℕ
  pub since : RestsSince H n c
  pub full : c + 100 ≤ H.clock (suc n)

pub record Turns (H : Scene) : Type 0 where
  -- "Nothing is sent before a tick"; "rest grows by one up to 100; at 100 a talk starts": so nothing goes out while another frame talks, nor
  -- sooner than 100 ticks after
  pub rested : (n : ℕ) (x : Talker) (f : Frame) → H.Goes x n f → Rested H n
  -- ".. if anything waits": nothing goes out for a talker that doesn't, and where one does, something goes out
  pub waited : (n : ℕ) (x : Talker) (f : Frame) → H.Goes x n f → Waits H x n
  pub starts : (n : ℕ) (x : Talker) → Rested H n → Waits H x n → (y : Talker) × (f : Frame) × H.Goes y n f
  -- "If both wait, the one that didn't talk last goes first": where x goes and y waits too, y talked last
  pub fair : (n : ℕ) (x y : Talker) (f : Frame) → H.Goes x n f → Waits H y n → (x ≡ y → ⊥) → Last H n y

-- a boiler frame of type 4 to 7 comes as event n, and it is a good word
pub record Sound (H : Scene) (n : ℕ) (b : Frame) : Type 0 where
  pub frame : H.Boils n b
  pub good : GoodWord b.word
  pub typed : 4 ≤ type_of b.word

-- a talk is "84 to 874" ticks old before event n, and its frame is q
pub record Listens (H : Scene) (n : ℕ) (q : Frame) : Type 0 where
  pub x : Talker
  pub j : ℕ
  pub talks : Talks H n x j q
  pub from : 84 ≤ past_on H j n
  pub upto : past_on H j n ≤ 874

pub record Meets (H : Scene) : Type 0 where
  -- 7: "boiler frame outside a talk's ages 84-874", whatever it would match
  pub seven : (n : ℕ) (b : Frame) → Sound H n b → ((q : Frame) → Listens H n q → ⊥) → H.Refuses n OutOfTime
  -- 8: "boiler frame that doesn't match", where 7 isn't given
  pub eight : (n : ℕ) (b q : Frame) → Sound H n b → Listens H n q → matches_of q.word b.word ≡ false → H.Refuses n NoMatch
  -- 16: "spare bits not zero" (02, Ask 1), whoever talks, however long, and whatever else the frame would match
  pub sixteen : (n : ℕ) (b : Frame) → H.Boils n b → even_of b.word ≡ true → 0 < spare_of b.word → H.Refuses n SpareBits

-- "Frames with a spare bit set are to be refused at the line, from either side" (02, Ask 1), and those of odd parity: what gets past the line is a
-- good word
pub record GoodOnly (H : Scene) : Type 0 where
  -- the thermostat's frame that is held, and that goes out
  pub held : (n : ℕ) (f : Frame) → H.Holds n f → GoodWord f.word
  pub out : (n : ℕ) (f : Frame) → H.Goes Thermostat n f → GoodWord f.word
  -- the boiler's frame that answers what is out, an order's question or the thermostat's, and that is passed on
  pub answer : (j : ℕ) (q : Frame) (k : ℕ) (b : Frame) → AnswersOn H j q k b → GoodWord b.word
  pub passed : (k : ℕ) (b : Frame) → H.Passes k b → GoodWord b.word
