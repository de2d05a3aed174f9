-- 'Nothing left open by a contract' (01), and what every result has that a contract allows, said once for every function. `Post` is a function's own contract, as the check reads it:
-- of the arguments, the result and the parameters at exit.
-- Assumes nothing.
use mathlib.Core.Path.{◌≡◌}
use mathlib.Core.List.{List}
use Prim.Native.Nat.{ℕ}
use contract.Lifetimes.{Lfts}
use denote.Triple.Clauses.{AtExit}
use borrow.Fn.Kinds.{ParamKind, ResultKind, Dens, res_t, ended_of, Out}

-- each result that the contract allows, with the parameters at exit, is so
abbrev pub Always : {n : ℕ} (ps : List (ParamKind n)) (r : ResultKind n) → Out n ps r →
    ((κs : Lfts n) → Dens κs ps → (res_t r κs).Denot → AtExit (ended_of n ps r) κs → Type 0) → Type 0
Always {n} ps r Post So = (κs : Lfts n) (a : Dens κs ps) (u : (res_t r κs).Denot) (x : AtExit (ended_of n ps r) κs) → Post κs a u x → So κs a u x

-- two results that the contract allows are equal
abbrev pub One : {n : ℕ} (ps : List (ParamKind n)) (r : ResultKind n) → Out n ps r → Type 0
One {n} ps r Post =
    (κs : Lfts n) (a : Dens κs ps) (u v : (res_t r κs).Denot) (x y : AtExit (ended_of n ps r) κs) → Post κs a u x → Post κs a v y → u ≡ v

-- two results that the contract allows are equal, and so is what `room` reads off the parameters at exit
abbrev pub OneRoom : {n : ℕ} (ps : List (ParamKind n)) (r : ResultKind n) → Out n ps r → ((κs : Lfts n) → AtExit (ended_of n ps r) κs → List ℕ) → Type 0
OneRoom {n} ps r Post room =
    (κs : Lfts n) (a : Dens κs ps) (u v : (res_t r κs).Denot) (x y : AtExit (ended_of n ps r) κs) →
    Post κs a u x → Post κs a v y → (u ≡ v) × (room κs x ≡ room κs y)
