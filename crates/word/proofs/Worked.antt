-- Worked words: `ones` takes as many steps as the number, so a worked word is counted digit by digit, by a test that computes.
-- Assumes nothing.
use Rattle.std.specs.Prelude.{Ok}
use mathlib.Core.Path.{◌≡◌, sym, ap, ◌∙◌, subst}
use mathlib.Core.Bool.{Bool, true, ◌&&◌}
use Prim.Native.Nat.{ℕ, zero, suc, ◌+◌, ◌*◌, ◌/◌, ◌%◌, ◌^◌, ◌<◌}
use native.Mathlib.Nat.{pow-suc}
use native.Mathlib.Omega.{arith}
use borrow.Author.Tests.{ltb-true, leb-true, le-ltb, eqb-true}
use lib.Dec.{eqb, ltb, leb}
use lib.Arith.{lt-one}
use lib.Count.{ones, ones_in, ones_step}
use Rattle.word.specs.Frame.{bare, built_of}
use Rattle.word.proofs.Match.{both}

-- k digits are enough for a number below 2 ^ k
pub counted : (k n : ℕ) → n < 2 ^ k → ones_in k n ≡ ones n
unfolding ones_in ones
counted zero n h = sym (ap ones (lt-one h))
counted (suc k) n h =
    let g : n < 2 ^ k * 2 = subst (λ (x : ℕ). n < x) (pow-suc 2 k) h in
    ap (λ (x : ℕ). n % 2 + x) (counted k (n / 2) (omega arith)) ∙ sym (ones_step n)

-- the word that type, id and value build is w
abbrev pub builds : ℕ → ℕ → ℕ → ℕ → Bool
builds t i v w = leb t 7 && (ltb (bare t i v) (2 ^ 32) && eqb (bare t i v + ones_in 32 (bare t i v) % 2 * 2 ^ 31) w)

pub built_is : (t i v w : ℕ) → builds t i v w ≡ true → built_of t i v ≡ Ok w
unfolding built_of
built_is t i v w e =
    let n = bare t i v in
    let small = ltb n (2 ^ 32) in
    let same = eqb (n + ones_in 32 n % 2 * 2 ^ 31) w in
    let first = both (leb t 7) (small && same) e in
    let second = both small same first.1 in
    let low = le-ltb 7 t (leb-true t 7 first.0) in
    rw low
    (ap (λ (x : ℕ). Ok (n + x % 2 * 2 ^ 31)) (sym (counted 32 n (ltb-true n (2 ^ 32) second.0)))
    ∙ ap Ok (eqb-true (n + ones_in 32 n % 2 * 2 ^ 31) w second.1))
