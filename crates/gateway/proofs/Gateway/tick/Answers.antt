-- `gateway::Gateway::tick` meets its contract: lines of which none says anything, or any others.
-- Assumes nothing.
use Rattle.std.proofs.Common.{ℕ, ◌≡◌, ◌<◌, refl, ◌∙◌, subst, length, arith, rules}
use lib.ListN.{length-set}
use borrow.Author.Tests.{le-leb}
use Rattle.promises.specs.Entries.{tick_of}
use Rattle.gateway.proofs.Index.{unmapped, Partly, from_first, ticked, passed, all_ticked, silent_tick}
use Rattle.gateway.proofs.Gateway.tick.Goals.{then-not-idle, else-not-idle}
use Rattle.gateway.proofs.Gateway.tick.Goals as goal

pub loop-i-init : goal.loop-i-init
loop-i-init c =
    let l = c.args.self.lines in
    let four : length l ≡ 4 = search (rules, unmapped) in
    let from = c.busy_from-i in (
      from_first l from.result from.ensures.0 from.ensures.1,
      (four, (refl, (from.ensures.0, (refl, refl)))),
    )

pub loop-i-preserved : goal.loop-i-preserved
loop-i-preserved c =
    let at = c.loop-i in
    let l = c.args.self.lines in
    let h : at.i < 4 = c.loop-i-test.true in
    elim c.if-not-idle.branch [
      | then-not-idle w ↦ rw (w.self-is, w.saids-is) (
        ticked l at.i at.self.lines at.saids w.tick-step.result at.invariant.0 at.invariant.1.0 at.invariant.1.1.0 h w.tick-step.ensures,
        (
          length-set at.self.lines at.i w.tick-step.result.line ∙ at.invariant.1.0,
          (
            length-set at.saids at.i w.tick-step.result.said ∙ at.invariant.1.1.0,
            (omega (arith, h), at.invariant.1.1.1.1),
          ),
        ),
      )
      | else-not-idle w ↦ rw (w.self-is, w.saids-is) (
        passed l at.i at.self.lines at.saids at.invariant.0 h (cc),
        (at.invariant.1.0, (at.invariant.1.1.0, (omega (arith, h), at.invariant.1.1.1.1))),
      )
    ]

pub returns-then-silent : goal.returns-then-silent
returns-then-silent c =
    let at = c.loop-i in
    let a = c.args.self in
    let four : at.i ≡ 4 = omega (arith, c.loop-i-test.false, at.invariant.1.1.1.0) in
    let all = subst (λ (n : ℕ). Partly a.lines n at.self.lines at.saids) four at.invariant.0 in
    rw (
      silent_tick a at.self.lines at.saids _ c.if-room-lt-ROOM.false all (c.silent.ensures c.if-silent.true),
      ← at.invariant.1.1.1.1.0,
      ← at.invariant.1.1.1.1.1,
    ) (c.stays-then-silent.ensures, refl)

pub returns : goal.returns
unfolding tick_of
returns c =
    let at = c.loop-i in
    let a = c.args.self in
    let four : at.i ≡ 4 = omega (arith, c.loop-i-test.false, at.invariant.1.1.1.0) in
    let all = subst (λ (n : ℕ). Partly a.lines n at.self.lines at.saids) four at.invariant.0 in
    rw (
      le-leb _ _ c.if-room-lt-ROOM.false,
      all_ticked a.lines at.self.lines at.saids all,
      ← at.invariant.1.1.1.1.0,
      ← at.invariant.1.1.1.1.1,
    ) c.speaks.ensures
