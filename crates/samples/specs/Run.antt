-- A run of samples through a reader: the answer to each, and the reader after them.
-- Assumes nothing: these are definitions.
use Rattle.std.specs.Prelude.{◌≡◌, List, [], ◌∷◌, ◌++◌, ℕ, ◌-◌, length, get_or, replicate}
use Rattle.samples.specs.declared.Answer.{Answer}
use Rattle.samples.specs.declared.Answer.TheVariants.{Nothing}
use Rattle.samples.specs.Reader.{Reader}
use Rattle.samples.specs.Reading.{fresh_of, step_of}

unfoldable pub answers_of : Reader → List ℕ → List Answer
answers_of r [] = []
answers_of r (s ∷ l) = (step_of r s).answer ∷ answers_of (step_of r s).reader l

unfoldable pub after_of : Reader → List ℕ → Reader
after_of r [] = r
after_of r (s ∷ l) = after_of (step_of r s).reader l

-- n samples that give no answer
abbrev pub none : ℕ → List Answer
none n = replicate n Nothing

-- the reader gives an answer to this sample
abbrev pub Answered : Reader → ℕ → Type 0
Answered r s = (step_of r s).answer ≡ Nothing → ⊥

-- the answer of a fresh reader to sample number n of these, the first of which is number 0
abbrev pub answer_at : List ℕ → ℕ → Answer
answer_at l n = get_or (answers_of fresh_of l) n Nothing

-- a fresh reader gives one answer to these samples, this one, at their last
abbrev pub Last : List ℕ → Answer → Type 0
Last l x = answers_of fresh_of l ≡ none (length l - 1) ++ (x ∷ [])
