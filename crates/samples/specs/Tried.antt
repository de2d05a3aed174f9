-- The tried distances of 01 as whole runs of a fresh reader: P11, and the start edge at 14 and 15 and a middle edge at 24; and how straight the edges were.
-- Assumes nothing: these are definitions.
use Rattle.std.specs.Prelude.{List, [], ◌∷◌, ◌++◌, ℕ, replicate}
use Rattle.samples.specs.declared.Answer.{Answer}
use Rattle.samples.specs.Answers.{WithRefusal, frame}
use Rattle.samples.specs.Run.{Last}
use Rattle.samples.specs.Edges.{plain, crossed, levels_of}

-- samples, and the one answer that they give, at their last; or the number of the refusal that they give there
pub data Try : Type 0 where
  try : List ℕ → Answer → Try
  refused : List ℕ → ℕ → Try

abbrev pub Gives : List Try → Type 0
Gives [] = Unit {0}
Gives (try l x ∷ rest) = Last l x × Gives rest
Gives (refused l n ∷ rest) = WithRefusal n (Last l) × Gives rest

-- the frame 55555555, bits falling and rising by turns, with its first stretch of d samples and the others of 20; its start bit's middle
-- edge at s
abbrev pub fives : ℕ → ℕ → List ℕ
fives s d = levels_of 0 s (plain d ∷ replicate 31 (plain 20) ++ (crossed 10 20 ∷ []))

-- "P11 a middle edge at 17 is refusal 1, at 18 and 23 good."
abbrev pub p11_cases : List Try
p11_cases = refused (levels_of 0 10 (plain 17 ∷ [])) 1 ∷ try (fives 10 18) (frame 0x5555_5555 18 20) ∷ try (fives 10 23) (frame 0x5555_5555 20 23) ∷ []

-- 02, Ask 3: of the frame AAAAAAAA the first distance, with the other edge in it, is 19 and the last one 22, the others are 20, and the start
-- bit's middle edge is at 14
abbrev pub edge_cases : List Try
edge_cases = try (levels_of 0 14 (crossed 10 19 ∷ replicate 31 (plain 20) ++ (plain 22 ∷ []))) (frame 0xaaaa_aaaa 19 22) ∷ []

-- "start edge at 14 good, at 15 refusal 2; a middle edge at 24 refusal 2", at 15 and 24 for either level
abbrev pub run_cases : List Try
run_cases =
    try (fives 14 20) (frame 0x5555_5555 20 20)
    ∷ refused (replicate 24 0 ++ (replicate 15 1 ++ (0 ∷ []))) 2
    ∷ refused (replicate 24 0 ++ (replicate 15 1 ++ (1 ∷ []))) 2
    ∷ refused (levels_of 0 10 [] ++ (replicate 23 0 ++ (1 ∷ []))) 2
    ∷ refused (levels_of 0 10 [] ++ (replicate 23 0 ++ (0 ∷ []))) 2
    ∷ []
