-- `word::matches` meets its contract: the word is good, and then the id and the type are looked at.
-- Assumes nothing.
use Rattle.std.proofs.Common.{sym, ◌∙◌, eq-eqb, ne_eqb}
use Rattle.word.specs.Frame.{matches_of}
use Rattle.word.proofs.Good.{refused_bad, taken_good}
use Rattle.word.proofs.matches.Goals as goal

pub returns-then-is_err : goal.returns-then-is_err
unfolding matches_of
returns-then-is_err c = rw (refused_bad _ _ c.check.ensures (sym c.is_err.ensures.value ∙ c.if-is_err.true))

pub returns-then-id_of : goal.returns-then-id_of
unfolding matches_of
returns-then-id_of c = rw (taken_good _ _ c.check.ensures (sym c.is_err.ensures.value ∙ c.if-is_err.false), ← c.id_of.ensures, ← c.id_of-2.ensures, eq-eqb _ _ c.if-id_of.true, ← c.type_of.ensures, ← c.type_of-then-id_of.ensures) c.suits.ensures

pub returns-else-id_of : goal.returns-else-id_of
unfolding matches_of
returns-else-id_of c = rw (taken_good _ _ c.check.ensures (sym c.is_err.ensures.value ∙ c.if-is_err.false), ← c.id_of.ensures, ← c.id_of-2.ensures, ne_eqb _ _ c.if-id_of.false)
