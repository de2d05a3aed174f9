-- `otreplay::paper::happened` meets its contract: the two lines one after the other.
-- Assumes nothing.
use Rattle.std.proofs.lemmas.Result.{on_ok_weaker, on_err_weaker, MatchResult-from_err}
use Rattle.print.proofs.Added.{then, one_put}
use Rattle.print.proofs.Broken.{at_first, later}
use Rattle.otreplay.specs.Printed.{event_trace}
use Rattle.otreplay.proofs.paper.happened.Goals as goal

pub returns-clause-ok : goal.returns-clause-ok
unfolding event_trace
returns-clause-ok g c =
    rw (← c.wrong.ensures)
    (on_ok_weaker c.add.result (λ p. then _ _ _ _ _ c.in_ok-add_some.ensures.ok (one_put _ _ _ _ p c.told.ensures)) c.add.ensures.ok)

pub returns-in_err-add_some-clause-err : goal.returns-in_err-add_some-clause-err
unfolding event_trace
returns-in_err-add_some-clause-err g c =
    MatchResult-from_err c.from_residual.result _ _ c.from_residual.ensures.0
    (λ e. at_first _ _ _ c.in_err-add_some.ensures.err)

pub returns-clause-err : goal.returns-clause-err
unfolding event_trace
returns-clause-err g c =
    rw (← c.wrong.ensures)
    (on_err_weaker c.add.result (λ e. later _ _ _ _ _ c.in_ok-add_some.ensures.ok (at_first _ _ _ e)) c.add.ensures.err)
