-- A page of the code, read as the definitions' page.
-- Assumes nothing: these are definitions.
use Rattle.print.specs.declared.Page.{Page as Lent}
use Rattle.print.specs.Page.{Page, page}
use Rattle.std.specs.Prelude.{ℕ}

abbrev pub page_of : Lent → Page
page_of p = page p.room.now p.used

-- whose bytes they are: while this stays, what stands in the page's room stands in the room that was lent
abbrev pub lender : Lent → ℕ
lender p = p.room.ghost_name
