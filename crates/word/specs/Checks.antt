-- Tests in the order in which they are made, each with the answer that is given where it fails: a refusal (01, 'Numbered answers': "Order:"), or
-- the code of an exception.
-- Assumes nothing: these are definitions.
use Rattle.std.specs.Prelude.{◌≡◌, Bool, true, false, cond, List, [], ◌∷◌}

pub record Check (N : Type 0) : Type 0 where
  pub number : N
  pub holds : Bool

abbrev pub must : {N : Type 0} → N → Bool → Check N
must n test = record { number = n; holds = test }

-- what `refusal` says of the first number whose test fails, and `next` where none does
abbrev pub judged : {N A : Type 0} → List (Check N) → (N → A) → A → A
judged [] refusal next = next
judged (c ∷ cs) refusal next = cond c.holds (judged cs refusal next) (refusal c.number)

-- the test with this number fails, and none before it does
pub data Fails {N : Type 0} : List (Check N) → N → Type 0 where
  here : {c : Check N} {cs : List (Check N)} → c.holds ≡ false → Fails (c ∷ cs) c.number
  later : {c : Check N} {cs : List (Check N)} {n : N} → c.holds ≡ true → Fails cs n → Fails (c ∷ cs) n

-- no test fails
pub data Passes {N : Type 0} : List (Check N) → Type 0 where
  none : Passes []
  all : {c : Check N} {cs : List (Check N)} → c.holds ≡ true → Passes cs → Passes (c ∷ cs)
