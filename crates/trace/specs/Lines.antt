-- The lines of a trace, in ASCII: the time in ticks, and what was sent or told.
--     T sent L F              a frame goes out on line L: its word, and how straight its edges were, unless both numbers are 0
--     T held L                a thermostat's frame is held; T dropped L: a boiler's is dropped
--     T passed L F            a boiler's frame is passed on to the thermostat of line L
--     T accepted L            a message is an order on line L now
--     T reply BYTES           a reply at once
--     T reply BYTES wait N    the reply to the order under way, and its wait in ticks
--     T refused N             a refusal with its number
-- Assumes nothing: these are definitions.
use Rattle.std.specs.Prelude.{ℕ, Bool, cond, ◌&&◌, List, [], ◌∷◌, ◌++◌, eqb, take}
use Rattle.word.specs.declared.Frame.{Frame}
use Rattle.text.specs.Text.{decimal_of, hex_of}
use Rattle.promises.specs.declared.Told.{Told}
use Rattle.promises.specs.declared.Told.TheVariants.{Quiet, Held, Passed, Dropped, Accepted, Reply, Outcome, Refused}

-- ` sent `, ` held `, ` passed `, ` dropped `, ` accepted `, ` reply `, ` wait `, ` refused `
abbrev pub sent : List ℕ
sent = 32 ∷ 115 ∷ 101 ∷ 110 ∷ 116 ∷ 32 ∷ []

abbrev pub held : List ℕ
held = 32 ∷ 104 ∷ 101 ∷ 108 ∷ 100 ∷ 32 ∷ []

abbrev pub passed : List ℕ
passed = 32 ∷ 112 ∷ 97 ∷ 115 ∷ 115 ∷ 101 ∷ 100 ∷ 32 ∷ []

abbrev pub dropped : List ℕ
dropped = 32 ∷ 100 ∷ 114 ∷ 111 ∷ 112 ∷ 112 ∷ 101 ∷ 100 ∷ 32 ∷ []

abbrev pub accepted : List ℕ
accepted = 32 ∷ 97 ∷ 99 ∷ 99 ∷ 101 ∷ 112 ∷ 116 ∷ 101 ∷ 100 ∷ 32 ∷ []

abbrev pub reply : List ℕ
reply = 32 ∷ 114 ∷ 101 ∷ 112 ∷ 108 ∷ 121 ∷ 32 ∷ []

abbrev pub wait : List ℕ
wait = 32 ∷ 119 ∷ 97 ∷ 105 ∷ 116 ∷ 32 ∷ []

abbrev pub refused : List ℕ
refused = 32 ∷ 114 ∷ 101 ∷ 102 ∷ 117 ∷ 115 ∷ 101 ∷ 100 ∷ 32 ∷ []

abbrev pub newline : ℕ
newline = 10

-- the time, a word, and the number of a line of the box
unfoldable pub on_line : ℕ → List ℕ → ℕ → List ℕ
on_line time word line = decimal_of time ++ (word ++ decimal_of line)

unfoldable pub alone : ℕ → List ℕ → ℕ → List ℕ
alone time word line = on_line time word line ++ (newline ∷ [])

-- how straight a frame's edges were (02, Ask 3), in decimal; nothing where both numbers are 0
unfoldable pub unmeasured_of : Frame → Bool
unmeasured_of f = eqb f.shortest 0 && eqb f.longest 0

unfoldable pub straight_of : Frame → List ℕ
straight_of f = cond (unmeasured_of f) [] (32 ∷ (decimal_of f.shortest ++ (32 ∷ decimal_of f.longest)))

-- and a frame: its word in eight digits, and that
unfoldable pub framed : ℕ → List ℕ → ℕ → Frame → List ℕ
framed time word line frame = on_line time word line ++ (32 ∷ (hex_of 8 frame.word ++ (straight_of frame ++ (newline ∷ []))))

-- bytes as pairs of digits
unfoldable pub in_hex : List ℕ → List ℕ
in_hex [] = []
in_hex (b ∷ s) = hex_of 2 b ++ in_hex s

-- the first bytes of a room, as a reply
unfoldable pub replied : ℕ → ℕ → List ℕ → List ℕ
replied time count room = decimal_of time ++ (reply ++ in_hex (take count room))

unfoldable pub outcome_of : ℕ → ℕ → List ℕ → ℕ → List ℕ
outcome_of time count room waited = replied time count room ++ (wait ++ (decimal_of waited ++ (newline ∷ [])))

unfoldable pub refused_of : ℕ → ℕ → List ℕ
refused_of time number = decimal_of time ++ (refused ++ (decimal_of number ++ (newline ∷ [])))

unfoldable pub sent_of : ℕ → ℕ → Frame → List ℕ
sent_of time line frame = framed time sent line frame

-- what is told, of this line where it is one's; a quiet tick has no line
unfoldable pub told_of : ℕ → ℕ → Told → List ℕ → List ℕ
told_of time line Quiet room = []
told_of time line Held room = alone time held line
told_of time line (Passed frame) room = framed time passed line frame
told_of time line Dropped room = alone time dropped line
told_of time line Accepted room = alone time accepted line
told_of time line (Reply count) room = replied time count room ++ (newline ∷ [])
told_of time line (Outcome count waited) room = outcome_of time count room waited
told_of time line (Refused number) room = refused_of time number
