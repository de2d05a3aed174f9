-- `print::add` meets its contract: by the three cases of a line's place.
-- Assumes nothing.
use Rattle.std.proofs.Common.{◌≡◌, ◌+◌, ◌-◌, length, ap, sym, ◌∙◌, arith}
use Rattle.print.specs.Page.{page, added}
use Rattle.print.proofs.Added.{nowhere, first, next}
use Rattle.print.proofs.add.Goals as goal
use Rattle.print.proofs.add.Goals.{then-page-line-2+in_ok-flush-2, else-page-line-2}

pub returns-then-page-line-clause-ok : goal.returns-then-page-line-clause-ok
returns-then-page-line-clause-ok g c =
    let from = page c.args.page.now c.args.used in
    sym (nowhere _ c.args.used _ c.if-page-line.true) ∙ ap (added from) c.as_bytes-line.ensures

pub returns-clause-ok : goal.returns-clause-ok
returns-clause-ok g c =
    let d = c.args.page.now in
    let at = c.if-page-line-2.at in
    let same = c.copy_from_slice.ensures.after in
    let long : length c.as_bytes-line.result.now ≡ at + length c.as_bytes-line.result.now - at = omega arith in
    (elim c.if-page-line-2.branch [
      | then-page-line-2+in_ok-flush-2 w ↦
          first d _ _ c.if-page-line.false (page d at) _ same _ long w.if-page-line-2.true (ap (page d) w.at-is)
      | else-page-line-2 w ↦ next d _ _ c.if-page-line.false (page d at) _ same _ long w.if-page-line-2.false (ap (page d) w.at-is)
    ])
    ∙ ap (added (page d c.args.used)) c.as_bytes-line.ensures
