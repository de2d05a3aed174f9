-- The notes lose nothing, and take nothing for something else: what was told, and what went out, can be had back from its note; its numbers are the code's
-- own; and what goes out on line 1 stands in the code's `one`, and so on.
-- Assumes nothing.
use Rattle.std.specs.Prelude.{Option, Some, None}
use Rattle.turns.specs.declared.Talker.{Talker}
use Rattle.word.specs.declared.Frame.{Frame}
use mathlib.Core.Path.{◌≡◌, refl}
use Prim.Native.Nat.{ℕ}
use Rattle.turns.specs.Events as line
use Rattle.promises.specs.declared.Outs.{Outs}
use Rattle.promises.specs.declared.Told.{Told}
use Rattle.promises.specs.declared.Told.TheVariants as told
use Rattle.promises.specs.Notes.{BoxNote, quiet, held, passed, dropped, accepted, reply, outcome, refused, box_note_of, gone_of}
use Rattle.promises.specs.History.{out_at}

abbrev pub told_by : BoxNote → Told
told_by quiet = told.Quiet
told_by held = told.Held
told_by (passed f) = told.Passed f
told_by dropped = told.Dropped
told_by accepted = told.Accepted
told_by (reply c) = told.Reply c
told_by (outcome c w) = told.Outcome c w
told_by (refused n) = told.Refused n

pub told_back : (t : Told) → told_by (box_note_of t) ≡ t
told_back told.Quiet = refl
told_back told.Held = refl
told_back (told.Passed f) = refl
told_back told.Dropped = refl
told_back told.Accepted = refl
told_back (told.Reply c) = refl
told_back (told.Outcome c w) = refl
told_back (told.Refused n) = refl

pub number_as_told : (n : ℕ) → box_note_of (told.Refused n) ≡ refused n
number_as_told n = refl

pub bytes_as_told : (c w : ℕ) → (box_note_of (told.Reply c) ≡ reply c) × (box_note_of (told.Outcome c w) ≡ outcome c w)
bytes_as_told c w = (refl, refl)

-- `line.sent` for a frame that goes out, and any other note for none
abbrev pub out_by : line.Note → Option (Talker × Frame)
out_by line.nothing = None
out_by (line.sent t f) = Some (t, f)
out_by line.held = None
out_by (line.passed f) = None
out_by line.dropped = None
out_by line.accepted = None
out_by (line.exception n) = None
out_by (line.answer f n) = None
out_by (line.no_answer n) = None
out_by (line.refused n) = None

pub out_back : (o : Option (Talker × Frame)) → out_by (gone_of o) ≡ o
out_back None = refl
out_back (Some (t, f)) = refl

pub outs_in_order : (o : Outs) → (out_at o 1 ≡ gone_of o.one) × ((out_at o 2 ≡ gone_of o.two) × ((out_at o 3 ≡ gone_of o.three) × (out_at o 4 ≡ gone_of o.four)))
outs_in_order o = (refl, (refl, (refl, refl)))
