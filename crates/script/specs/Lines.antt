-- The lines of a script. A line is a word and its fields, separated by one space each:
--     tick N              N ticks, 1 to 4,294,967,295
--     thermostat L F      the frame F (Frames) from the thermostat of line L
--     boiler L F          the same from the boiler; L is 0 to 255, so that lines that aren't there can be tried
--     modbus BYTES        a message, a pair of hexadecimal digits for each byte; `modbus` alone is a message of none
--     room N              from now on a room of N bytes is lent for replies, 0 to 300
--     fresh serial        a new box of that form, at time 0; or
--     fresh tcp
-- An empty line and one that begins with `#` are skipped. Any other line is wrong.
-- Assumes nothing: these are definitions.
use Rattle.std.specs.Prelude.{ℕ, Bool, ◌||◌, if◌then◌else◌, List, [], ◌∷◌, ◌++◌, nat_eq, ◌==◌, length, drop, codes, bytes_eq, Option, Some, None}
use Rattle.std.specs.List.{starts_with}
use Rattle.std.specs.Option.{option_map_or, option_zip}
use Rattle.word.specs.declared.Frame.{Frame}
use Rattle.modbus.specs.declared.MessageForm.TheVariants.{Serial, Tcp}
use Rattle.script.specs.declared.Event.{Event}
use Rattle.script.specs.declared.Event.TheVariants.{Skip, Wrong, Ticks, Thermostat, Boiler, Message, Room, Fresh}
use Rattle.script.specs.Digits.{bounded_of, fitting}
use Rattle.script.specs.Frames.{first_of, rest_of, framing_of}

-- what a line says, and the bytes of its message
pub record Read : Type 0 where
  pub event : Event
  pub bytes : List ℕ

-- no message, or none that has bytes
abbrev pub without_bytes : Event → Read
without_bytes e = record { event = e; bytes = [] }

-- bytes in front of a room; what is behind them stays
abbrev pub placed : List ℕ → List ℕ → List ℕ
placed b room = b ++ drop (length b) room

abbrev pub begins : List ℕ → List ℕ → Bool
begins w s = starts_with nat_eq s w

abbrev pub ticked_by : Option ℕ → Event
ticked_by (Some n) = if n == 0 then Wrong else Ticks n
ticked_by None = Wrong

unfoldable pub tick_line : List ℕ → Event
tick_line s = ticked_by (bounded_of 4294967295 s)

unfoldable pub room_line : List ℕ → Event
room_line s = option_map_or Room (bounded_of 300 s) Wrong

-- a line's number, and a frame
abbrev pub numbered_of : List ℕ → Option (ℕ × Frame)
numbered_of s = option_zip (first_of s) (framing_of (rest_of s))

-- of the boiler or of the thermostat, as the event is made
unfoldable pub frame_line : (ℕ → Frame → Event) → List ℕ → Event
frame_line event s = option_map_or (λ p. event p.0 p.1) (numbered_of s) Wrong

abbrev pub said : Option (List ℕ) → Read
said (Some (b ∷ s)) = record { event = Message (length (b ∷ s)); bytes = b ∷ s }
said (Some []) = without_bytes Wrong
said None = without_bytes Wrong

-- one byte or more, as many as a room of n bytes holds
unfoldable pub message_line : ℕ → List ℕ → Read
message_line n s = said (fitting n s)

abbrev pub note : List ℕ
note = codes "#"

abbrev pub tick : List ℕ
tick = codes "tick "

abbrev pub thermostat : List ℕ
thermostat = codes "thermostat "

abbrev pub boiler : List ℕ
boiler = codes "boiler "

abbrev pub room : List ℕ
room = codes "room "

abbrev pub modbus : List ℕ
modbus = codes "modbus"

abbrev pub fresh_serial : List ℕ
fresh_serial = codes "fresh serial"

abbrev pub fresh_tcp : List ℕ
fresh_tcp = codes "fresh tcp"

-- a message of no bytes, or a new box; any other line is wrong
unfoldable pub alone_of : List ℕ → Event
alone_of s =
    if bytes_eq s modbus then Message 0
    else if bytes_eq s fresh_serial then Fresh Serial
    else if bytes_eq s fresh_tcp then Fresh Tcp
    else Wrong

-- a line that has no bytes of a message, its end left out
unfoldable pub plain_line : List ℕ → Event
plain_line s =
    if length s == 0 || begins note s then Skip
    else if begins tick s then tick_line (drop (length tick) s)
    else if begins thermostat s then frame_line Thermostat (drop (length thermostat) s)
    else if begins boiler s then frame_line Boiler (drop (length boiler) s)
    else if begins room s then room_line (drop (length room) s)
    else alone_of s

-- `modbus `
abbrev pub message : List ℕ
message = codes "modbus "

-- a whole line; there is room for n bytes of a message
unfoldable pub script_line : ℕ → List ℕ → Read
script_line n s = if begins message s then message_line n (drop (length message) s) else without_bytes (plain_line s)
