-- The caretaker's poll (02, Ask 2) in numbers, from a fresh line: "exception 04 at once where no such frame went out", and then "the high byte .. of
-- the last READ-DATA with this id that went out for the line's thermostat, .. looked up when the order's own frame goes out, low byte 0".
-- `caretaker` of proofs/Caretaker.antt proves them together.
-- Assumes nothing: these are definitions.
use Rattle.std.specs.Prelude.{ℕ, ◌≡◌, true}
use Rattle.word.specs.declared.Frame.{Frame}
use Rattle.word.specs.Frame.{unmeasured}
use Rattle.turns.specs.Line.{Line}
use Rattle.turns.specs.declared.Query.{Query}
use Rattle.turns.specs.declared.Talker.TheVariants.{Modbus}
use Rattle.turns.specs.Turns.{fresh_line, tick_of, thermostat_of, order_of}
use Rattle.turns.specs.Events.{Note, sent, exception, note_of}
use Rattle.turns.specs.Cases.{plain, ticks_later}

abbrev pub frame : ℕ → Frame
frame w = unmeasured w

-- the caretaker reads id 0 alone, and id 70
abbrev pub poll_0 : Query
poll_0 = record { word = 0x0000_0000; alone = true }

abbrev pub poll_70 : Query
poll_70 = record { word = 0x8046_0000; alone = true }

-- the thermostat's frames: two statuses of id 0 and one of id 70, with low bytes that no order sends; and a WRITE-DATA and an INVALID-DATA of id 0
abbrev pub status_03 : Frame
status_03 = frame 0x0000_03AA

abbrev pub status_01 : Frame
status_01 = frame 0x8000_01FF

abbrev pub status_70 : Frame
status_70 = frame 0x0046_0755

abbrev pub write_05 : Frame
write_05 = frame 0x9000_0500

abbrev pub invalid_05 : Frame
invalid_05 = frame 0xA000_0500

-- the thermostat frame f comes to the line l, goes out within 100 ticks, and nobody answers it
unfoldable pub unanswered : Line → Frame → Line
unanswered l f = ticks_later 975 (thermostat_of l f).line

-- what is said to the order w at once; and in tick 100 after it
abbrev pub told_at_once : Line → Query → Note
told_at_once l w = note_of (order_of l w).said

unfoldable pub after_100 : Line → Query → Note
after_100 l w = note_of (tick_of (ticks_later 99 (order_of l w).line)).said

-- status-03 has gone out, and after it an order of another kind, so that it is the thermostat's turn next
unfoldable pub between : Line
between = ticks_later 975 (order_of (unanswered fresh_line status_03) (plain 0)).line

pub record Caretaker : Type 0 where
  -- no status came at all; one is held and not yet out
  pub never_out : told_at_once fresh_line poll_0 ≡ exception 4
  pub only_held : told_at_once (thermostat_of fresh_line status_03).line poll_0 ≡ exception 4
  -- what went out isn't READ-DATA, or has the other id
  pub write_data : told_at_once (unanswered fresh_line write_05) poll_0 ≡ exception 4
  pub invalid_data : told_at_once (unanswered fresh_line invalid_05) poll_0 ≡ exception 4
  pub other_id : told_at_once (unanswered fresh_line status_03) poll_70 ≡ exception 4
  -- it went out, and nobody answered it: 03AA is asked with 0300
  pub high_byte : after_100 (unanswered fresh_line status_03) poll_0 ≡ sent Modbus (frame 0x0000_0300)
  -- both went out: each id with its own
  pub own_0 : after_100 (unanswered (unanswered fresh_line status_03) status_70) poll_0 ≡ sent Modbus (frame 0x0000_0300)
  pub own_70 : after_100 (unanswered (unanswered fresh_line status_03) status_70) poll_70 ≡ sent Modbus (frame 0x0046_0700)
  -- a newer one, 01FF, goes out between acceptance and the order's own frame: the newer is sent
  pub newer : note_of (tick_of (ticks_later 1074 (order_of (thermostat_of between status_01).line poll_0).line)).said ≡ sent Modbus (frame 0x8000_0100)
