-- A word that is checked: the tests of a good word all pass, or one fails, the first with the number that is given. And they pass exactly where
-- the word is good in 01's words.
-- Assumes nothing.
use Rattle.std.specs.Prelude.{Result, Ok, Err, is_err}
use mathlib.Core.Path.{◌≡◌, sym, ◌∙◌, subst}
use mathlib.Core.Bool.{true, false}
use mathlib.Core.Logic.{⊎_elim}
use Prim.Native.Nat.{ℕ, ◌<◌}
use Rattle.refusals.specs.declared.Refusal.{Refusal}
use Rattle.refusals.specs.declared.Refusal.TheVariants.{OddParity, SpareBits}
use native.Mathlib.Omega.{arith}
use borrow.Author.Tests.{eqb-true, eq-eqb, ne_eqb}
use Rattle.word.specs.Checks.{Fails, here, later, Passes, none, all}
use Rattle.word.specs.Frame.{even_of, spare_of, clear_of, good_checks, good_of, checked_of}
use Rattle.word.specs.Fields.{GoodWord}
use Rattle.word.proofs.Clash.{clash}
use Rattle.word.proofs.Checks.{refuses, goes_on, either}

module _ (w : ℕ) where
  pub fails : (n : Refusal) → checked_of w ≡ Err n → Fails (good_checks w) n
  unfolding checked_of
  fails n e =
      ⊎_elim
      (λ x. let m : Err x.0 ≡ Err n = sym (refuses Err (Ok (tt {0})) x.1) ∙ e in
      let same : x.0 ≡ n = cc in subst (Fails (good_checks w)) same x.1)
      (λ p. clash (let z : (Ok (tt {0})) ≡ Err n = sym (goes_on Err (Ok (tt {0})) p) ∙ e in cc))
      (either (good_checks w))

  pub passes : checked_of w ≡ (Ok (tt {0})) → Passes (good_checks w)
  unfolding checked_of
  passes e =
      ⊎_elim
      (λ x. clash (let z : Err x.0 ≡ (Ok (tt {0})) = sym (refuses Err (Ok (tt {0})) x.1) ∙ e in cc))
      (λ p. p)
      (either (good_checks w))

  -- and so of a good word
  pub good : Passes (good_checks w) → good_of w ≡ true
  unfolding good_of
  good p = goes_on (λ (n : Refusal). false) true p

  pub bad : {n : Refusal} → Fails (good_checks w) n → good_of w ≡ false
  unfolding good_of
  bad f = refuses (λ (n : Refusal). false) true f

  pub of_good : good_of w ≡ true → Passes (good_checks w)
  of_good e = ⊎_elim (λ x. clash (let z : true ≡ false = sym e ∙ bad x.1 in cc)) (λ p. p) (either (good_checks w))

  pub good_passes : GoodWord w → Passes (good_checks w)
  unfolding clear_of
  good_passes g = all g.even (all (eq-eqb (spare_of w) 0 g.clear) none)

  pub passes_good : Passes (good_checks w) → GoodWord w
  unfolding clear_of
  passes_good (all even (all clear p)) = record { even = even; clear = eqb-true (spare_of w) 0 clear }

  -- 5: "parity odd"; 16: "spare bits not zero"
  pub odd_fails : even_of w ≡ false → Fails (good_checks w) OddParity
  odd_fails odd = here odd

  pub spare_fails : even_of w ≡ true → 0 < spare_of w → Fails (good_checks w) SpareBits
  unfolding clear_of
  spare_fails even set = later even (here (ne_eqb (spare_of w) 0 (λ z. omega (arith, set))))

  -- a word that is refused isn't good, and one that isn't is
  pub refused_bad : (r : Result (Unit {0}) Refusal) → r ≡ checked_of w → is_err r ≡ true → good_of w ≡ false
  refused_bad (Err n) is e = bad (fails n (sym is))
  refused_bad (Ok u) is e = clash cc

  pub taken_good : (r : Result (Unit {0}) Refusal) → r ≡ checked_of w → is_err r ≡ false → good_of w ≡ true
  taken_good (Ok u) is e = good (passes (sym is))
  taken_good (Err n) is e = clash cc
