-- A line of the trace fits the text's room, so what is printed is the line, whole.
-- Assumes nothing.
use mathlib.Core.Path.{◌≡◌, refl}
use mathlib.Core.Bool.{Bool, true, false, cond}
use mathlib.Core.List.{List, [], ◌∷◌, ◌++◌}
use Prim.Native.Nat.{ℕ, ◌*◌, ◌^◌, ◌≤◌, ◌<◌}
use native.Mathlib.Omega.{arith}
use lib.ListN.{length, take, length-append, length-take}
use Rattle.word.specs.declared.Frame.{Frame}
use Rattle.text.specs.Text.{empty_text, puts, says, decimal_of}
use Rattle.text.proofs.Puts.{decimal_short, hex_length, says_puts}
use Rattle.promises.specs.declared.Told.{Told}
use Rattle.promises.specs.declared.Told.TheVariants.{Quiet, Held, Passed, Dropped, Accepted, Reply, Outcome, Refused}
use Rattle.trace.specs.Lines.{
  sent,
  held,
  passed,
  dropped,
  accepted,
  unmeasured_of,
  straight_of,
  on_line,
  alone,
  framed,
  in_hex,
  replied,
  outcome_of,
  refused_of,
  sent_of,
  told_of,
}

-- the numbers that come with it have their types' ranges, and a reply has at most 16 bytes
abbrev pub InRange : Frame → Type 0
InRange f = (f.shortest < 256) × (f.longest < 256)

abbrev pub Small : Told → Type 0
Small Quiet = Unit {0}
Small Held = Unit {0}
Small (Passed f) = InRange f
Small Dropped = Unit {0}
Small Accepted = Unit {0}
Small (Reply n) = n ≤ 16
Small (Outcome n w) = (n ≤ 16) × (w < 65536)
Small (Refused n) = n < 256

hex_twice : (s : List ℕ) → length (in_hex s) ≡ length s * 2
unfolding in_hex
hex_twice [] = refl
hex_twice (b ∷ s) = let two = hex_length 2 b in let rest = hex_twice s in rw length-append (omega arith)

straight_short : (f : Frame) → InRange f → length (straight_of f) ≤ 8
unfolding straight_of
straight_short f small = go (unmeasured_of f)
  where
    go : (b : Bool) → length (cond b [] (32 ∷ (decimal_of f.shortest ++ (32 ∷ decimal_of f.longest)))) ≤ 8
    go true = omega arith
    go false =
        let s = decimal_short 2 f.shortest (omega arith) in
        let g = decimal_short 2 f.longest (omega arith) in
        simp length-append (omega arith)

module _ (time line : ℕ) (h : time < 2 ^ 64) (g : line < 256) where
  on_line_short : (word : List ℕ) → length word ≤ 10 → length (on_line time word line) ≤ 33
  unfolding on_line
  on_line_short word few =
      let t = decimal_short 19 time (omega arith) in
      let l = decimal_short 2 line (omega arith) in
      simp length-append (omega arith)

  alone_short : (word : List ℕ) → length word ≤ 10 → length (alone time word line) ≤ 120
  unfolding alone
  alone_short word few = let start = on_line_short word few in simp length-append (omega arith)

  framed_short : (word : List ℕ) (f : Frame) → InRange f → length word ≤ 10 → length (framed time word line f) ≤ 120
  unfolding framed
  framed_short word f small few =
      let start = on_line_short word few in
      let eight = hex_length 8 f.word in
      let straight = straight_short f small in
      simp length-append (omega arith)

  replied_short : (n : ℕ) (room : List ℕ) → n ≤ 16 → length (replied time n room) ≤ 59
  unfolding replied
  replied_short n room few =
      let t = decimal_short 19 time (omega arith) in
      let bytes = hex_twice (take n room) in
      let part = length-take n room in
      simp length-append (omega arith)

  told_short : (t : Told) (room : List ℕ) → Small t → length (told_of time line t room) ≤ 120
  unfolding told_of outcome_of refused_of
  told_short Quiet room s = omega arith
  told_short Held room s = alone_short held (omega arith)
  told_short (Passed f) room s = framed_short passed f s (omega arith)
  told_short Dropped room s = alone_short dropped (omega arith)
  told_short Accepted room s = alone_short accepted (omega arith)
  told_short (Reply n) room s = let start = replied_short n room s in simp length-append (omega arith)
  told_short (Outcome n w) room s =
      let start = replied_short n room s.0 in
      let waited = decimal_short 4 w (omega arith) in
      simp length-append (omega arith)
  told_short (Refused n) room s =
      let t = decimal_short 19 time (omega arith) in
      let number = decimal_short 2 n (omega arith) in
      simp length-append (omega arith)

  pub sent_says : (f : Frame) → InRange f → says (puts empty_text (sent_of time line f)) ≡ sent_of time line f
  unfolding sent_of
  sent_says f small = says_puts (framed time sent line f) (framed_short sent f small (omega arith))

  pub told_says : (t : Told) (room : List ℕ) → Small t → says (puts empty_text (told_of time line t room)) ≡ told_of time line t room
  told_says t room s = says_puts (told_of time line t room) (told_short t room s)
