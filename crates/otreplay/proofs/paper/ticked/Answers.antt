-- `otreplay::paper::ticked` meets its contract: the lines one after the other.
-- Assumes nothing.
use Rattle.std.proofs.lemmas.Result.{on_ok_weaker, on_err_weaker, MatchResult-from_err}
use Rattle.print.proofs.Added.{then, one_put}
use Rattle.print.proofs.Broken.{at_first, later}
use Rattle.otreplay.specs.Printed.{tick_trace}
use Rattle.otreplay.proofs.paper.ticked.Goals as goal

pub returns-clause-ok : goal.returns-clause-ok
unfolding tick_trace
returns-clause-ok g c =
    rw (← c.sent.ensures, ← c.sent-2.ensures, ← c.sent-3.ensures, ← c.sent-4.ensures)
    (on_ok_weaker c.add.result
    (λ p. then _ _ _ _ _ c.in_ok-add_some.ensures.ok
    (then _ _ _ _ _ c.in_ok-add_some-2.ensures.ok
    (then _ _ _ _ _ c.in_ok-add_some-3.ensures.ok
    (then _ _ _ _ _ c.in_ok-add_some-4.ensures.ok (one_put _ _ _ _ p c.told.ensures)))))
    c.add.ensures.ok)

pub returns-in_err-add_some-clause-err : goal.returns-in_err-add_some-clause-err
unfolding tick_trace
returns-in_err-add_some-clause-err g c =
    MatchResult-from_err c.from_residual.result _ _ c.from_residual.ensures.0
    (λ e. at_first _ _ _ c.in_err-add_some.ensures.err)

pub returns-in_err-add_some-2-clause-err : goal.returns-in_err-add_some-2-clause-err
unfolding tick_trace
returns-in_err-add_some-2-clause-err g c =
    rw (← c.sent.ensures)
    (MatchResult-from_err c.from_residual-in_err-add_some-2.result _ _ c.from_residual-in_err-add_some-2.ensures.0
    (λ e. later _ _ _ _ _ c.in_ok-add_some.ensures.ok (at_first _ _ _ c.in_err-add_some-2.ensures.err)))

pub returns-in_err-add_some-3-clause-err : goal.returns-in_err-add_some-3-clause-err
unfolding tick_trace
returns-in_err-add_some-3-clause-err g c =
    rw (← c.sent.ensures, ← c.sent-2.ensures)
    (MatchResult-from_err c.from_residual-in_err-add_some-3.result _ _ c.from_residual-in_err-add_some-3.ensures.0
    (λ e. later _ _ _ _ _ c.in_ok-add_some.ensures.ok
    (later _ _ _ _ _ c.in_ok-add_some-2.ensures.ok (at_first _ _ _ c.in_err-add_some-3.ensures.err))))

pub returns-in_err-add_some-4-clause-err : goal.returns-in_err-add_some-4-clause-err
unfolding tick_trace
returns-in_err-add_some-4-clause-err g c =
    rw (← c.sent.ensures, ← c.sent-2.ensures, ← c.sent-3.ensures)
    (MatchResult-from_err c.from_residual-in_err-add_some-4.result _ _ c.from_residual-in_err-add_some-4.ensures.0
    (λ e. later _ _ _ _ _ c.in_ok-add_some.ensures.ok
    (later _ _ _ _ _ c.in_ok-add_some-2.ensures.ok
    (later _ _ _ _ _ c.in_ok-add_some-3.ensures.ok (at_first _ _ _ c.in_err-add_some-4.ensures.err)))))

pub returns-clause-err : goal.returns-clause-err
unfolding tick_trace
returns-clause-err g c =
    rw (← c.sent.ensures, ← c.sent-2.ensures, ← c.sent-3.ensures, ← c.sent-4.ensures)
    (on_err_weaker c.add.result
    (λ e. later _ _ _ _ _ c.in_ok-add_some.ensures.ok
    (later _ _ _ _ _ c.in_ok-add_some-2.ensures.ok
    (later _ _ _ _ _ c.in_ok-add_some-3.ensures.ok
    (later _ _ _ _ _ c.in_ok-add_some-4.ensures.ok (at_first _ _ _ e)))))
    c.add.ensures.err)
