-- 02, Ask 2: ids 0 and 70 are an exchange (000, 5.3.1), "the question's high byte is the master's own status". What a line remembers of it, and
-- what it makes of it for an order.
-- Assumes nothing: these are definitions.
use Rattle.std.specs.Prelude.{ℕ, ◌*◌, ◌/◌, Bool, cond, ◌&&◌, ◌||◌, eqb, Option, Some, None, is_none, unwrap_or}
use Rattle.word.specs.declared.Frame.{Frame}
use Rattle.word.specs.Frame.{type_of, id_of, value_of, read_data, bare, evened}
use Rattle.turns.specs.declared.Query.{Query}
use Rattle.turns.specs.declared.Status.{Status}

-- "For these ids, codes 03 and 04 and code 17 with a read alone"
abbrev pub heating : ℕ
heating = 0

abbrev pub ventilation : ℕ
ventilation = 70

unfoldable pub exchanges_of : Query → Bool
exchanges_of w = w.alone && (eqb (id_of w.word) heating || eqb (id_of w.word) ventilation)

-- "since fresh": no such frame went out yet
abbrev pub no_status : Status
no_status = record { heating = None; ventilation = None }

-- "the last READ-DATA with this id that went out for the line's thermostat": what is remembered of the id i where the frame f goes out
unfoldable pub keeps_of : ℕ → Option ℕ → Frame → Option ℕ
keeps_of i x f = cond (eqb (type_of f.word) read_data) (cond (eqb (id_of f.word) i) (Some (value_of f.word / 256)) x) x

unfoldable pub shows_of : Status → Frame → Status
shows_of m f = record { heating = keeps_of heating m.heating f; ventilation = keeps_of ventilation m.ventilation f }

unfoldable pub flags_for : Status → ℕ → Option ℕ
flags_for m i = cond (eqb i heating) m.heating m.ventilation

-- "exception 04 at once where no such frame went out"
unfoldable pub lacks_of : Status → Query → Bool
lacks_of m w = exchanges_of w && is_none (flags_for m (id_of w.word))

-- "shall send, as the high byte, that of the last READ-DATA ..; low byte 0"
unfoldable pub status_word : ℕ → ℕ → ℕ
status_word i b = evened (bare read_data i (b * 256))

-- the word of a query by the status m: its own, but for an exchange. (An order without status isn't accepted, so the 0 in its place is never sent.)
unfoldable pub word_by : Status → Query → ℕ
word_by m w = cond (exchanges_of w) (status_word (id_of w.word) (unwrap_or (flags_for m (id_of w.word)) 0)) w.word
