-- Lines that are added one after the other until a write fails: before the first, behind some of them, and after as many as were added.
-- Assumes nothing.
use Rattle.std.proofs.Common.{◌≡◌, ℕ, ◌+◌, List, [], ◌++◌, length, take, sym, refl, ap, ◌∙◌, append_assoc, append-nil}
use Rattle.std.proofs.Math.Seq.{take-append-add, take_at}
use Rattle.print.specs.Page.{Page, all_added, BrokenOff}
use Rattle.print.proofs.Added.{then}

-- at the first line
pub at_first : (p q : Page) (ls : List (List ℕ)) → q ≡ p → BrokenOff p ls q
unfolding all_added
at_first p q ls e = (0, e)

-- some were added, and it broke off among those behind them
pub later : (p q s : Page) (a b : List (List ℕ)) → q ≡ all_added p a → BrokenOff q b s → BrokenOff p (a ++ b) s
later p q s a b e (k, f) = (length a + k, then p q s a (take k b) e f ∙ ap (all_added p) (sym (take-append-add a b k)))

-- of the lines ls those in front stand on the page q, and the lines r are still to come
abbrev pub Due : Page → List (List ℕ) → List (List ℕ) → Page → Type 0
Due p ls r q = (d : List (List ℕ)) × (d ++ r ≡ ls) × (q ≡ all_added p d)

pub due_all : (p : Page) (ls : List (List ℕ)) → Due p ls ls p
unfolding all_added
due_all p ls = ([], refl, refl)

-- x of them come, and t are left
pub due_more : (p q s : Page) (ls r x y t : List (List ℕ)) → Due p ls r q → y ≡ x → x ++ t ≡ r → s ≡ all_added q y → Due p ls t s
due_more p q s ls r x y t (d, e, eq) ex er es = (
  d ++ x,
  append_assoc d x t ∙ ap (λ (z : List (List ℕ)). d ++ z) er ∙ e,
  then p q s d x eq (es ∙ ap (all_added q) ex),
)

-- none are left
pub due_done : (p q : Page) (ls r : List (List ℕ)) → Due p ls r q → r ≡ [] → q ≡ all_added p ls
due_done p q ls r (d, e, eq) none = eq ∙ ap (all_added p) (sym (append-nil d) ∙ ap (λ (y : List (List ℕ)). d ++ y) (sym none) ∙ e)

pub due_broken : (p q s : Page) (ls r : List (List ℕ)) → Due p ls r q → s ≡ q → BrokenOff p ls s
due_broken p q s ls r (d, e, eq) es =
    let firsts : take (length d) ls ≡ d = ap (λ (y : List (List ℕ)). take (length d) y) (sym e) ∙ take_at d r (length d) refl in
    (length d, es ∙ eq ∙ ap (all_added p) (sym firsts))
