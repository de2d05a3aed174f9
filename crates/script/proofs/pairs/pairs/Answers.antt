-- `script::pairs::pairs` meets its contract: nothing is written of what does not fit, and else a byte for each pair.
-- Assumes nothing.
use Rattle.std.proofs.Common.{◌≡◌, sym, ap, ◌∙◌, true, length, Some, is_some, rules, arith}
use borrow.Author.Tests.{tests}
use Rattle.std.proofs.lemmas.Iterator.{YieldsList-from_slice}
use Rattle.std.proofs.lemmas.Iterator.Search.{all_from_yields_List}
use Rattle.std.specs.Slice.Iter.{chunks_exact_rest}
use Rattle.std.specs.Iterator.Adapters.{enumerate_source, enumerate_count}
use Rattle.script.specs.Digits.{digit_of, all_hex, pairs_of, fitting}
use Rattle.script.proofs.Bytes.{pairs_length, one_more, all_written, fit}
use Rattle.script.proofs.pairs.pairs.Goals as goal

pub loop-i-preserved : goal.loop-i-preserved
loop-i-preserved c =
    let l = c.loop-i in
    let steps = c.in-Some.ensures.steps in
    let more = one_more c.args.s.now c.args.room.now l.room (chunks_exact_rest (enumerate_source l.i-iterator)) (enumerate_count l.i-iterator)
    l.invariant.written l.invariant.left (omega arith) c.in-Some.digits.now (chunks_exact_rest (enumerate_source c.next.new.self))
    steps.0.1.0 (steps.0.1.1 ∙ l.invariant.size) in
    rw (steps.2, steps.1, c.pair.ensures) (record {
      written = more.0;
      size = steps.0.0 ∙ l.invariant.size;
      within = more.1;
      left = more.2;
    })

fits_here : (c : goal.In-None) → fitting (length c.args.room.now) c.args.s.now ≡ Some (pairs_of c.args.s.now)
fits_here c =
    let s = c.args.s.now in
    let hex : all_hex s ≡ true = sym (all_from_yields_List (λ b. is_some (digit_of b)) _ _ c.all.result c.all.ensures.ran (YieldsList-from_slice s cc) (λ x b q k. search (rules, tests))) ∙ c.if-not-all.false in
    fit (length c.args.room.now) s (omega arith) (omega arith) hex

pub returns-clause-count : goal.returns-clause-count
returns-clause-count c = rw (fits_here c) (ap Some (sym (pairs_length c.args.s.now)))

pub returns-clause-written : goal.returns-clause-written
returns-clause-written c =
    let l = c.loop-i in
    let steps = c.in-None.ensures.steps in
    rw (fits_here c) (all_written c.args.s.now c.args.room.now l.room (chunks_exact_rest (enumerate_source l.i-iterator)) (enumerate_count l.i-iterator)
    l.invariant.written l.invariant.left (omega arith) (omega arith) l.invariant.within)
