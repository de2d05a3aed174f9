-- A reader as 01 has it, and what a sample makes of it: the reader, and the answer.
-- Assumes nothing: these are definitions.
use Rattle.samples.specs.declared.Phase.{Phase}
use Rattle.samples.specs.declared.Answer.{Answer}

pub record Reader : Type 0 where
  pub phase : Phase

pub record Step : Type 0 where
  pub reader : Reader
  pub answer : Answer
