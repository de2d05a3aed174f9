-- `script::plain` meets its contract: a line that begins with none of the words stands alone.
-- Assumes nothing.
use Rattle.std.proofs.Common.{◌≡◌, false, length, ◌==◌, ◌||◌}
use Rattle.script.specs.Lines.{begins, note, tick, thermostat, boiler, room, plain_line}
use Rattle.script.proofs.Fields.{other}
use Rattle.script.proofs.plain.Goals as goal
use Rattle.script.proofs.plain.Goals.{then-is_empty, else-is_empty}

pub returns-in_default-strip_prefix-3 : goal.returns-in_default-strip_prefix-3
unfolding plain_line
returns-in_default-strip_prefix-3 c =
    let s = c.args.line.now in
    let skip : ((length s == 0) || begins note s) ≡ false = elim c.if-is_empty.branch [ then-is_empty w ↦ cc | else-is_empty w ↦ rw (← w.if-is_empty.ensures) (cc) ] in
    rw (
      skip,
      other tick s c.in_default.ensures.cases,
      other thermostat s c.in_default-strip_prefix.ensures.cases,
      other boiler s c.in_default-strip_prefix-2.ensures.cases,
      other room s c.in_default-strip_prefix-3.ensures.cases,
    ) c.alone.ensures
