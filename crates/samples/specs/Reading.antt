-- Reading samples (01, 'Samples'), one at a time. A reader waits for idle, or is at a distance from the first edge, or is past a middle
-- edge. The sentences of 01 stand above the definitions, in their order.
-- Assumes nothing: these are definitions.
use Rattle.std.specs.Prelude.{ℕ, ◌+◌, ◌*◌, ◌%◌, ◌^◌, min, max, Bool, true, false, cond, not, ◌&&◌, leb, ltb, eqb}
use Rattle.std.specs.Bool.{beq}
use Rattle.word.specs.declared.Frame.{Frame}
use Rattle.samples.specs.declared.Middle.{Middle}
use Rattle.samples.specs.declared.Phase.{Phase}
use Rattle.samples.specs.declared.Phase.TheVariants.{Waiting, Start, Bits}
use Rattle.samples.specs.declared.Answer.{Answer}
use Rattle.samples.specs.declared.Answer.TheVariants as answer
use Rattle.samples.specs.Reader.{Reader, Step}
use Rattle.samples.specs.Answers.{early, late, no_stop, no_sample}

-- "A fresh reader, and one that has just given a frame or a refusal, waits for 24 idle samples in a row; the sample that gave the
-- answer isn't counted"
abbrev pub fresh_of : Reader
fresh_of = record { phase = Waiting 0 }

abbrev pub gives : Answer → Step
gives a = record { reader = fresh_of; answer = a }

-- no answer yet
abbrev pub goes_on : Phase → Step
goes_on p = record { reader = record { phase = p }; answer = answer.Nothing }

-- "an active one starts the count again. Then: the first active sample is an edge": n idle samples in a row came before
unfoldable pub waited_of : ℕ → Bool → Phase
waited_of n false = Waiting (min 24 (n + 1))
waited_of n true = cond (leb 24 n) (Start 0) (Waiting 0)

abbrev pub within : ℕ → ℕ → ℕ → Bool
within from to d = leb from d && leb d to

-- at a middle edge to this level: distances count from here
abbrev pub past_edge : ℕ → Frame → Bool → Middle
past_edge edges frame active = record { edges = edges; frame = frame; distance = 0; active = active; other = false }

-- at the start bit's, which has no bit of the word, and no distance from a middle edge before it: the first one will be below 255 and above 0
abbrev pub begun : Frame
begun = record { word = 0; shortest = 255; longest = 0 }

-- "the smallest and largest distance between neighbouring middle edges" (02, Ask 3): the next one is at distance d from the one before
abbrev pub measured : Frame → ℕ → Frame
measured f d = record { word = f.word; shortest = min f.shortest d; longest = max f.longest d }

-- "the start bit's middle edge follows at distance 8 to 14. An earlier edge is refusal 1; no edge up to 14 is refusal 2, given at
-- distance 15 for either level there": a sample at distance d from the first edge. The line was active since, so an idle one is an edge
unfoldable pub start_of : ℕ → Bool → Step
start_of d active =
    let edge = not active in
    cond (edge && within 8 14 d) (goes_on (Bits (past_edge 1 begun false)))
    (cond (edge && ltb d 8) (gives early)
    (cond (ltb 14 d) (gives late)
    (goes_on (Start d))))

-- "a falling middle edge is 1, a rising one 0."
abbrev pub bit_of : Bool → ℕ
bit_of true = 0
bit_of false = 1

-- the frame with that bit, below those before it
abbrev pub with_bit : Frame → Bool → Frame
with_bit f active = record { word = (f.word * 2 + bit_of active) % 2 ^ 32; shortest = f.shortest; longest = f.longest }

-- "The 34th must fall, else refusal 3. The frame is given at that sample, of either parity.": the next middle edge, at distance d and
-- to this level
unfoldable pub middle_of : Middle → ℕ → Bool → Step
middle_of m d active =
    let f = measured m.frame d in
    cond (ltb (m.edges + 1) 34)
    (goes_on (Bits (past_edge (m.edges + 1) (with_bit f active) active)))
    (cond active (gives no_stop) (gives (answer.Frame f)))

-- the sample at distance d from the same middle edge; `other`: whether the other edge was there
abbrev pub farther_of : Middle → ℕ → Bool → Bool → Middle
farther_of m d active other = record { edges = m.edges; frame = m.frame; distance = d; active = active; other = other }

-- "after each middle edge the next middle edge comes at 18 to 23, measured from the middle edge before. At most one other edge may
-- stand between, at 8 to 14. Any other edge up to 17 is refusal 1. No middle edge up to 23 is refusal 2, given at distance 24 for
-- either level there": a sample at distance d from the middle edge before. It is an edge where its level isn't that of the last one
unfoldable pub next_of : Middle → ℕ → Bool → Step
next_of m d active =
    let edge = not (beq active m.active) in
    cond (edge && within 18 23 d) (middle_of m d active)
    (cond (edge && (not m.other && within 8 14 d)) (goes_on (Bits (farther_of m d active true)))
    (cond (edge && leb d 17) (gives early)
    (cond (ltb 23 d) (gives late)
    (goes_on (Bits (farther_of m d active m.other))))))

-- "One sample is one byte, 0 idle or 1 active": each sample is one farther than the last
abbrev pub taken_by : Phase → Bool → Step
taken_by (Waiting n) active = goes_on (waited_of n active)
taken_by (Start d) active = start_of (d + 1) active
taken_by (Bits m) active = next_of m (m.distance + 1) active

-- "A sample of 2 to 255 is refusal 4 in every state and before 1 to 3; the reader then waits for 24 idle samples."
unfoldable pub step_of : Reader → ℕ → Step
step_of r sample = cond (leb 2 sample) (gives no_sample) (taken_by r.phase (eqb sample 1))
