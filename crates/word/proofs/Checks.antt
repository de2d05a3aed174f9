-- Each number where no test before its own fails, and the answer where none does; one of the two holds of every list, and only one.
-- Assumes nothing.
use mathlib.Core.Path.{◌≡◌, refl}
use mathlib.Core.Logic.{◌⊎◌, inl, inr, ⊎_elim}
use mathlib.Core.Bool.{Bool, true, false}
use mathlib.Core.List.{List, [], ◌∷◌, ◌++◌}
use Rattle.word.proofs.Clash.{clash}
use Rattle.word.specs.Checks.{Check, judged, Fails, here, later, Passes, none, all}

module _ {N A : Type 0} (refusal : N → A) (next : A) where
  pub refuses : {cs : List (Check N)} {n : N} → Fails cs n → judged cs refusal next ≡ refusal n
  refuses (here e) = rw e
  refuses (later e f) = rw e (refuses f)

  pub goes_on : {cs : List (Check N)} → Passes cs → judged cs refusal next ≡ next
  goes_on none = refl
  goes_on (all e p) = rw e (goes_on p)

pub either : {N : Type 0} (cs : List (Check N)) → ((n : N) × Fails cs n) ⊎ Passes cs
either [] = inr none
either {N = N} (c ∷ cs) = go c.holds refl (either cs)
  where
    go : (b : Bool) → c.holds ≡ b → ((n : N) × Fails cs n) ⊎ Passes cs → ((n : N) × Fails (c ∷ cs) n) ⊎ Passes (c ∷ cs)
    go true e rest = ⊎_elim (λ f. inl (f.0, later e f.1)) (λ p. inr (all e p)) rest
    go false e rest = inl (c.number, here e)

-- tests made after others
pub joined : {N : Type 0} {cs ds : List (Check N)} → Passes cs → Passes ds → Passes (cs ++ ds)
joined none q = q
joined (all e p) q = all e (joined p q)

pub rest : {N : Type 0} (cs : List (Check N)) {ds : List (Check N)} → Passes (cs ++ ds) → Passes ds
rest [] p = p
rest (c ∷ cs) (all e p) = rest cs p

pub front : {N : Type 0} (cs ds : List (Check N)) → Passes (cs ++ ds) → Passes cs
front [] ds p = none
front (c ∷ cs) ds (all e p) = all e (front cs ds p)

-- where one of the first fails, what follows them isn't looked at; where all of them pass, it is
pub sooner : {N : Type 0} {cs : List (Check N)} (ds : List (Check N)) {n : N} → Fails cs n → Fails (cs ++ ds) n
sooner ds (here e) = here e
sooner ds (later e f) = later e (sooner ds f)

pub beyond : {N : Type 0} {cs ds : List (Check N)} {n : N} → Passes cs → Fails ds n → Fails (cs ++ ds) n
beyond none f = f
beyond (all e p) f = later e (beyond p f)

pub onward : {N A : Type 0} (refusal : N → A) (next : A) {cs : List (Check N)} (ds : List (Check N)) → Passes cs →
    judged (cs ++ ds) refusal next ≡ judged ds refusal next
onward refusal next ds none = refl
onward refusal next ds (all e p) = rw e (onward refusal next ds p)

-- no list does both
pub excluded : {N : Type 0} {cs : List (Check N)} {n : N} → Fails cs n → Passes cs → ⊥
excluded (here f) (all e p) = clash cc
excluded (later g f) (all e p) = excluded f p
