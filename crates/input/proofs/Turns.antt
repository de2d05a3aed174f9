-- One more turn, after those that said that there is more.
-- Assumes nothing.
use Rattle.std.proofs.Common.{ℕ, ◌+◌, Bool, true, List, Ok, replicate, subst}
use Rattle.std.proofs.lemmas.Fn.{FoldsTo-push}
use Rattle.std.proofs.lemmas.List.{replicate_more}
use Rattle.std.specs.List.{FoldsTo}
use Rattle.std.specs.declared.result.Result.{Result}
use Rattle.input.specs.Turns.{Goes, Ends}

pub one_ends : {F E : Type 0} (R : F → Result Bool E → F → Type 0) (first : F) (n : ℕ) (last : F) (answer : Result Bool E) (after : F)
    → Goes R first n last
    → R last answer after
    → Ends R first n answer after
one_ends R first n last answer after goes one = FoldsTo-push R first (replicate n (Ok true)) last answer after goes one

pub one_goes : {F E : Type 0} (R : F → Result Bool E → F → Type 0) (first : F) (n : ℕ) (last after : F)
    → Goes R first n last
    → R last (Ok true) after
    → Goes R first (n + 1) after
one_goes R first n last after goes one =
    subst (λ (l : List (Result Bool _)). FoldsTo R first l after) (replicate_more n (Ok true)) (one_ends R first n last (Ok true) after goes one)
