-- So many of the lines have ticked as the loop has come to; nothing else of the box has changed.
-- Assumes nothing.
use Rattle.std.proofs.Common.{◌≡◌, ◌≤◌, ◌-◌, length}
use Rattle.gateway.proofs.Index.{Partly}
use Rattle.gateway.proofs.Gateway.tick.Given as goal

abbrev pub invariant-loop-i : goal.invariant-loop-i
invariant-loop-i l =
    Partly l.initial.self.lines l.i l.self.lines l.saids
    × ((length l.self.lines ≡ 4) × ((length l.saids ≡ 4) × ((l.i ≤ 4) × ((l.self.asked ≡ l.initial.self.asked) × (l.self.form ≡ l.initial.self.form)))))

abbrev pub decreases-loop-i : goal.decreases-loop-i
decreases-loop-i l = 4 - l.i
