-- `otids::add_rows` meets its contract: one id more and its line is due no more, and from 256 on none is.
-- Assumes nothing.
use Rattle.std.proofs.Common.{◌+◌, arith}
use Rattle.std.proofs.lemmas.Result.{MatchResult-from_err}
use Rattle.print.proofs.Broken.{due_all, due_more, due_done, due_broken}
use Rattle.otids.proofs.Says.{over, rest}
use Rattle.otids.proofs.add_rows.Goals as goal

pub loop-id-init : goal.loop-id-init
loop-id-init g c = due_all _ _

pub loop-id-preserved : goal.loop-id-preserved
loop-id-preserved g c =
    due_more _ _ _ _ _ _ _ _ c.loop-id.invariant c.line_if.ensures (rest c.loop-id.id (omega arith)) c.in_ok-add_some.ensures.ok

pub returns-in_err-add_some-clause-err : goal.returns-in_err-add_some-clause-err
returns-in_err-add_some-clause-err g c =
    MatchResult-from_err c.from_residual.result _ _ c.from_residual.ensures.0
    (λ e. due_broken _ _ _ _ _ c.loop-id.invariant c.in_err-add_some.ensures.err)

pub returns-in_ok-add_some-clause-ok : goal.returns-in_ok-add_some-clause-ok
returns-in_ok-add_some-clause-ok g c =
    due_done _ _ _ _
    (due_more _ _ _ _ _ _ _ _ c.loop-id.invariant c.line_if.ensures (rest c.loop-id.id (omega arith)) c.in_ok-add_some.ensures.ok)
    (over (c.loop-id.id + 1) (omega arith))
