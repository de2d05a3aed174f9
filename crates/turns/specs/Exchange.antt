-- 02, Ask 2, in the words of a history: which frame is an order's own, and for which order there is none. "For these ids [0 and 70], codes 03 and 04
-- and code 17 with a read alone shall send, as the high byte, that of the last READ-DATA with this id that went out for the line's thermostat
-- since fresh, looked up when the order's own frame goes out, low byte 0."
-- The notes s say what goes out, and nothing here knows a line. Assumes nothing: these are definitions.
use Rattle.std.specs.Prelude.{ℕ, ◌*◌, ◌/◌, ◌<◌, ◌≡◌, ◌⊎◌, true}
use Rattle.word.specs.declared.Frame.{Frame}
use Rattle.word.specs.Frame.{type_of, id_of, value_of}
use Rattle.word.specs.Fields.{BuiltFrom}
use Rattle.turns.specs.declared.Query.{Query}
use Rattle.turns.specs.declared.Talker.TheVariants.{Thermostat}
use Rattle.turns.specs.Events.{Notes, sent}

-- a read alone with one of these ids: a status question
pub record Exchanges (w : Query) : Type 0 where
  pub alone : w.alone ≡ true
  pub named : (id_of w.word ≡ 0) ⊎ (id_of w.word ≡ 70)

-- at event m the frame f goes out for the thermostat, a READ-DATA (type 0) with the id i. One that is only held hasn't gone out, and one that nobody
-- answers has.
pub record Shows (s : Notes) (i m : ℕ) (f : Frame) : Type 0 where
  pub out : s m ≡ sent Thermostat f
  pub reads : type_of f.word ≡ 0
  pub names : id_of f.word ≡ i

-- f is the last of these before event n
pub record LastShown (s : Notes) (i n : ℕ) (f : Frame) : Type 0 where
  pub m : ℕ
  pub before : m < n
  pub shows : Shows s i m f
  pub no_later : (k : ℕ) (g : Frame) → m < k → k < n → Shows s i k g → ⊥

-- q is the frame of the query w, when it goes out at event j: "The word goes out unchanged" (01); or, of a status question, READ-DATA with its id,
-- that frame's high byte and low byte 0
pub data Own (s : Notes) (j : ℕ) (w : Query) (q : Frame) : Type 0 where
  plain : (Exchanges w → ⊥) → q.word ≡ w.word → Own s j w q
  status : Exchanges w → (f : Frame) → LastShown s (id_of w.word) j f →
      BuiltFrom 0 (id_of w.word) (value_of f.word / 256 * 256) q.word →
      Own s j w q

-- w is a status question, and "no such frame went out" before event k
pub record Lacks (s : Notes) (k : ℕ) (w : Query) : Type 0 where
  pub exchange : Exchanges w
  pub never : (m : ℕ) (f : Frame) → m < k → Shows s (id_of w.word) m f → ⊥
