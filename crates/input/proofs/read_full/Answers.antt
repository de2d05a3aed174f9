-- `input::read_full` meets its contract: a read takes what it puts behind what stands in the room.
-- Assumes nothing.
use Rattle.std.proofs.Common.{rules, append-nil, ◌≡◌, ℕ, ◌+◌, ◌-◌, ◌≤◌, List, ◌++◌, arith, length, take, slice_range, sym, ap, ◌∙◌, subst, le_refl, drop_at, length-take-le}
use Rattle.std.proofs.lemmas.Slice.{take-put_mid_below}
use Rattle.std.specs.Io.KnownBytes.{Consumes}
use Rattle.std.proofs.KnownBytes.{Consumes-nil, Consumes-trans}
use borrow.Rule.Slice.PartMut.{put_mid, post_of}
use lib.Seq.{take-add, take-append-le}
use Rattle.input.proofs.read_full.Goals as goal

take_split : (a n : ℕ) (old new : List ℕ) → take a new ≡ take a old → take a old ++ slice_range new a (a + n) ≡ take (a + n) new
take_split a n old new front =
    let same : (a + n) - a ≡ n = omega arith in
    ap (λ (l : List ℕ). l ++ slice_range new a (a + n)) (sym front)
    ∙ sym (take-add a ((a + n) - a) new)
    ∙ ap (λ (m : ℕ). take (a + m) new) same

read_part : (a k n : ℕ) (xs ys : List ℕ) → a ≤ length xs → n ≤ length ys → slice_range (put_mid a k xs ys) a (a + n) ≡ take n ys
read_part a k n xs ys within fits =
    let same : (a + n) - a ≡ n = omega arith in
    let after = post_of a k xs in
    ap (take ((a + n) - a)) (drop_at (take a xs) (ys ++ after) a (length-take-le a xs within))
    ∙ ap (λ (m : ℕ). take m (ys ++ after)) same
    ∙ take-append-le n ys after fits

pub loop-done-init : goal.loop-done-init
loop-done-init g c = record { within = omega arith; taken = Consumes-nil _ }

pub returns-then-n-eq0-clause-bytes : goal.returns-then-n-eq0-clause-bytes
returns-then-n-eq0-clause-bytes g c =
    let from = c.loop-done.done in
    let front = take-put_mid_below from (length c.loop-done.room - from) c.loop-done.room c.read.new.buf from (le_refl _) c.loop-done.invariant.within in
    let nothing : take from c.loop-done.room ++ take c.in_ok-n.n c.read.new.buf ≡ take from c.loop-done.room =
    ap (λ (n : ℕ). take from c.loop-done.room ++ take n c.read.new.buf) c.if-n-eq0.true ∙ append-nil _ in
    subst (Consumes _ _) (nothing ∙ sym front) (Consumes-trans _ _ _ _ _ c.loop-done.invariant.taken c.in_ok-n.ensures.bytes.0)

pub loop-done-preserved : goal.loop-done-preserved
loop-done-preserved g c =
    let from = c.loop-done.done in
    let room = length c.loop-done.room - from in
    let within = c.loop-done.invariant.within in
    let front = take-put_mid_below _ _ _ _ _ (le_refl _) within in
    let joined = take_split from c.in_ok-n.n c.loop-done.room (put_mid from room c.loop-done.room c.read.new.buf) front in
    let part = read_part from room c.in_ok-n.n c.loop-done.room c.read.new.buf within c.in_ok-n.ensures.bound.0 in
    record {
      within = search rules;
      taken =
          subst (Consumes _ _) (ap (λ (l : List ℕ). take from c.loop-done.room ++ l) (sym part) ∙ joined)
          (Consumes-trans _ _ _ _ _ c.loop-done.invariant.taken c.in_ok-n.ensures.bytes.0);
    }

pub returns-clause-bound : goal.returns-clause-bound
returns-clause-bound g c = (c.loop-done.invariant.within, sym (length-take-le _ _ c.loop-done.invariant.within))

pub returns-clause-bytes : goal.returns-clause-bytes
returns-clause-bytes g c = c.loop-done.invariant.taken
