-- `input::while_more` meets its contract: each turn joins those before it.
-- Assumes nothing.
use Rattle.std.proofs.Common.{inl}
use Rattle.std.proofs.lemmas.Result.{err_from_is_err_and}
use Rattle.input.proofs.Turns.{one_ends, one_goes}
use Rattle.input.proofs.while_more.Goals as goal

pub loop-preserved : goal.loop-preserved
loop-preserved g c = one_goes _ _ _ _ _ c.loop.invariant (rw c.if-not-branch.false at c.in_ok-turn.ensures)

pub returns-then-not-branch-clause-ok : goal.returns-then-not-branch-clause-ok
returns-then-not-branch-clause-ok g c =
    (_, inl (one_ends _ _ _ _ _ _ c.loop.invariant (rw c.if-not-branch.true at c.in_ok-turn.ensures)))

pub returns-in_err-turn-clause-err : goal.returns-in_err-turn-clause-err
returns-in_err-turn-clause-err g c =
    let p = err_from_is_err_and c.from_residual.result c.from_residual.ensures.1 in
    rw (p.1, p.2) (_, one_ends _ _ _ _ _ _ c.loop.invariant c.in_err-turn.ensures)
