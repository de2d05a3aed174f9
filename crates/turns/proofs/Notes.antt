-- The notes lose nothing, and take nothing for something else: what a line says can be had back from its note, with each number in its place.
-- Assumes nothing.
use mathlib.Core.Path.{◌≡◌, refl}
use Rattle.turns.specs.declared.Said.{Said}
use Rattle.turns.specs.declared.Said.TheVariants.{Quiet, Sent, Answer, NoAnswer, Passed, Dropped, Held, Taken, Exception, Refused}
use Rattle.turns.specs.Events.{Note, nothing, held, sent, passed, dropped, accepted, exception, answer, no_answer, refused, note_of}

abbrev pub said_by : Note → Said
said_by nothing = Quiet
said_by held = Held
said_by (sent x f) = Sent x f
said_by (passed f) = Passed f
said_by dropped = Dropped
said_by accepted = Taken
said_by (exception n) = Exception n
said_by (answer f n) = Answer f n
said_by (no_answer n) = NoAnswer n
said_by (refused r) = Refused r

pub said_back : (s : Said) → said_by (note_of s) ≡ s
said_back Quiet = refl
said_back Held = refl
said_back (Sent x f) = refl
said_back (Passed f) = refl
said_back Dropped = refl
said_back Taken = refl
said_back (Exception n) = refl
said_back (Answer f n) = refl
said_back (NoAnswer n) = refl
said_back (Refused r) = refl
