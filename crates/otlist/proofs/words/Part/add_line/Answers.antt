-- `otlist::words::Part::add_line` meets its contract: a word's line is what its text says.
-- Assumes nothing.
use Rattle.std.proofs.Common.{◌≡◌, ℕ, List, OnOk, ap, subst, ◌∙◌, arith, eq-eqb}
use Rattle.text.specs.Text.{says}
use Rattle.print.specs.Page.{added}
use Rattle.print.specs.Reads.{page_of}
use Rattle.otlist.specs.Listing.{listed_of}
use Rattle.otlist.specs.Words.{line_if}
use Rattle.print.specs.Page.{all_added}
use Rattle.otlist.proofs.Says.{listed}
use Rattle.otlist.proofs.words.Part.add_line.Goals as goal

pub returns-clause-ok : goal.returns-clause-ok
unfolding line_if all_added
returns-clause-ok g c =
    let same : says c.line.result ≡ listed_of c.args.self.word = ap says c.line.ensures ∙ listed c.args.self.word (omega arith) in
    rw (eq-eqb _ _ c.if-self-ne0.false)
    (subst
    (λ (l : List ℕ). OnOk c.add.result (page_of c.add.new.self ≡ added (page_of c.args.page.now) l))
    same
    c.add.ensures.ok)
