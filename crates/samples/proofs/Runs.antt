-- Runs without an answer, how they join, and how one ends with an answer.
-- Assumes nothing.
use mathlib.Core.Path.{◌≡◌, refl, sym, ap, ap₂, ◌∙◌}
use mathlib.Core.List.{List, [], ◌∷◌, ◌++◌}
use Prim.Native.Nat.{ℕ}
use lib.ListN.{length, length-append, replicate-append-replicate}
use Rattle.samples.specs.declared.Answer.{Answer}
use Rattle.samples.specs.declared.Answer.TheVariants.{Nothing}
use Rattle.samples.specs.Reader.{Reader}
use Rattle.samples.specs.Reading.{fresh_of, gives, step_of}
use Rattle.samples.specs.Run.{answers_of, after_of, none}

-- no sample of l gives an answer, and the reader goes from r to q
pub record Quiet (r : Reader) (l : List ℕ) (q : Reader) : Type 0 where
  pub silent : answers_of r l ≡ none (length l)
  pub ends : after_of r l ≡ q

pub answers_append : (r : Reader) (a b : List ℕ) → answers_of r (a ++ b) ≡ answers_of r a ++ answers_of (after_of r a) b
unfolding answers_of after_of
answers_append r [] b = refl
answers_append r (s ∷ a) b = ap (λ (l : List Answer). (step_of r s).answer ∷ l) (answers_append (step_of r s).reader a b)

pub after_append : (r : Reader) (a b : List ℕ) → after_of r (a ++ b) ≡ after_of (after_of r a) b
unfolding after_of
after_append r [] b = refl
after_append r (s ∷ a) b = after_append (step_of r s).reader a b

pub stay : (r : Reader) → Quiet r [] r
unfolding answers_of after_of
stay r = record { silent = refl; ends = refl }

-- what comes after a quiet run
pub then_answers : {r q : Reader} {a : List ℕ} (b : List ℕ) → Quiet r a q → answers_of r (a ++ b) ≡ none (length a) ++ answers_of q b
then_answers {r} {q} {a} b h = answers_append r a b ∙ ap₂ (λ (x : List Answer) (y : Reader). x ++ answers_of y b) h.silent h.ends

pub then_after : {r q : Reader} {a : List ℕ} (b : List ℕ) → Quiet r a q → after_of r (a ++ b) ≡ after_of q b
then_after {r} {q} {a} b h = after_append r a b ∙ ap (λ (y : Reader). after_of y b) h.ends

pub join : {r q p : Reader} {a b : List ℕ} → Quiet r a q → Quiet q b p → Quiet r (a ++ b) p
join {r} {q} {p} {a} {b} h g = record {
  silent = then_answers b h ∙ ap (λ (x : List Answer). none (length a) ++ x) g.silent ∙ replicate-append-replicate (length a) (length b) Nothing
      ∙ ap none (sym (length-append a b));
  ends = then_after b h ∙ g.ends;
}

-- one sample that gives no answer
pub one : {r q : Reader} (s : ℕ) → step_of r s ≡ record { reader = q; answer = Nothing } → Quiet r (s ∷ []) q
unfolding answers_of after_of
one s e = record { silent = ap (λ x. x.answer ∷ []) e; ends = ap (λ x. x.reader) e }

-- a quiet run, and then a sample that gives an answer: the reader is fresh again
pub ending : {r q : Reader} {a : List ℕ} (s : ℕ) (x : Answer) → Quiet r a q → step_of q s ≡ gives x →
    answers_of r (a ++ (s ∷ [])) ≡ none (length a) ++ (x ∷ [])
unfolding answers_of
ending {r} {q} {a} s x h e = then_answers (s ∷ []) h ∙ ap (λ y. none (length a) ++ (y.answer ∷ [])) e

pub ending_after : {r q : Reader} {a : List ℕ} (s : ℕ) (x : Answer) → Quiet r a q → step_of q s ≡ gives x → after_of r (a ++ (s ∷ [])) ≡ fresh_of
unfolding after_of
ending_after s x h e = then_after (s ∷ []) h ∙ ap (λ y. y.reader) e
