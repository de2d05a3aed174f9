-- `text::Text::decimal` meets its contract: by the laws of a decimal's digits.
-- Assumes nothing.
use Rattle.std.proofs.Common.{sym, ap, ◌∙◌, ◌+◌, ◌/◌, ◌%◌}
use Rattle.text.specs.declared.Text.{Text}
use Rattle.text.specs.Text.{puts, pushed, decimal_of}
use Rattle.text.proofs.Puts.{puts_last, decimal_one, decimal_more}
use Rattle.text.proofs.Text.+decimal.Goals as goal

pub returns-then-n-lt10 : goal.returns-then-n-lt10
unfolding puts
returns-then-n-lt10 t c = c.push.ensures ∙ sym (ap (puts c.args.self) (decimal_one c.args.n c.if-n-lt10.true))

pub returns-else-n-lt10 : goal.returns-else-n-lt10
returns-else-n-lt10 t c =
    c.push-else-n-lt10.ensures
    ∙ ap (λ (x : Text). pushed x (c.args.n % 10 + 48)) c.decimal-t.ensures
    ∙ sym (puts_last c.args.self (decimal_of (c.args.n / 10)) (c.args.n % 10 + 48))
    ∙ sym (ap (puts c.args.self) (decimal_more c.args.n c.if-n-lt10.false))
