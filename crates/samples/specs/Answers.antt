-- The answers of the sample reader, with 01's numbers ('Numbered answers'). The rules name them; the promises say the numbers themselves.
-- Assumes nothing: these are definitions.
use Rattle.std.specs.Prelude.{◌≡◌, ℕ}
use Rattle.refusals.specs.declared.Refusal.{Refusal}
use Rattle.refusals.specs.declared.Refusal.TheVariants.{EarlyEdge, NoEdge, NoStopBit, NoLevel}
use Rattle.refusals.specs.Numbers as refusal
use Rattle.samples.specs.declared.Answer.{Answer}
use Rattle.samples.specs.declared.Answer.TheVariants.{Nothing, Frame, Refused}

-- 01's number of each answer; 0 where it has none
abbrev pub number_of : Answer → ℕ
number_of Nothing = 0
number_of (Frame f) = 0
number_of (Refused r) = refusal.number_of r

-- it is so of the refusal with this number
abbrev pub WithRefusal : ℕ → (Answer → Type 0) → Type 0
WithRefusal n So = (r : Refusal) × So (Refused r) × (number_of (Refused r) ≡ n)

-- "1, 2, 3, 4: samples, as above": an edge before its time, no middle edge in time, a 34th that rises, a sample of 2 to 255
abbrev pub early : Answer
early = Refused EarlyEdge

abbrev pub late : Answer
late = Refused NoEdge

abbrev pub no_stop : Answer
no_stop = Refused NoStopBit

abbrev pub no_sample : Answer
no_sample = Refused NoLevel

-- a frame of this word, with the smallest and the largest distance between neighbouring middle edges
abbrev pub frame : ℕ → ℕ → ℕ → Answer
frame w s g = Frame (record { word = w; shortest = s; longest = g })
