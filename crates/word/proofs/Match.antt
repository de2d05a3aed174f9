-- A matching frame in 01's numbers: a good word, of the question's id, and of one of the types in the question's row of the table. `matching`
-- says it of every two words; the laws that the crates above use follow.
-- Assumes nothing.
use mathlib.Core.Path.{◌≡◌, refl, sym, ◌∙◌}
use mathlib.Core.Bool.{Bool, true, false, not, ◌&&◌, ◌||◌, beq}
use mathlib.Core.List.{List, [], ◌∷◌}
use mathlib.Core.Logic.{inl, inr}
use Prim.Native.Nat.{ℕ, ◌%◌, ◌≤◌, ◌<◌}
use native.Mathlib.Omega.{arith}
use lib.Count.{ones}
use lib.Dec.{T, eqb, leb}
use lib.ListN.{get_or}
use borrow.Author.Tests.{eqb-true, eq-eqb, leb-true}
use Rattle.word.proofs.Clash.{clash}
use Rattle.word.proofs.Table.{below, under}
use Rattle.word.proofs.Fields.{fields}
use Rattle.word.proofs.Good.{good, of_good, good_passes, passes_good}
pub use Rattle.word.proofs.Parts.{both}
use Rattle.word.proofs.Parts.{parts, joined}
use Rattle.word.specs.Checks.{Passes}
use Rattle.word.specs.Frame.{even_of, good_checks, type_of, suits_of, matches_of}
use Rattle.word.specs.Fields.{Fields, Fit, word_of, Read, answers, Among, Matches}

-- the table, by one test of its 8 rows and the 8 types
abbrev row : ℕ → List ℕ
row q = get_or answers q []

abbrev among : ℕ → List ℕ → Bool
among x [] = false
among x (y ∷ l) = eqb x y || among x l

among_is : (x : ℕ) (l : List ℕ) → among x l ≡ true → Among x l
among_is x [] e = clash cc
among_is x (y ∷ l) e = go (eqb x y) refl e (among_is x l)
  where
    go : (b : Bool) → eqb x y ≡ b → (b || among x l) ≡ true → (among x l ≡ true → Among x l) → Among x (y ∷ l)
    go true f g r = inl (eqb-true x y f)
    go false f g r = inr (r g)

is_among : (x : ℕ) (l : List ℕ) → Among x l → among x l ≡ true
is_among x [] h = absurd h
is_among x (y ∷ l) (inl e) = rw (eq-eqb x y e)
is_among x (y ∷ l) (inr h) = go (eqb x y) (is_among x l h)
  where
    go : (b : Bool) → among x l ≡ true → (b || among x l) ≡ true
    go true r = refl
    go false r = r

-- the definition and the table say the same, and no type below 4 is in the table
abbrev agrees : ℕ → ℕ → Bool
agrees q a = beq (suits_of q a) (among a (row q)) && (not (suits_of q a) || leb 4 a)

tested : T (below 8 (λ q. below 8 (agrees q)))
unfolding suits_of
tested = tt

same : (s m l : Bool) → T (beq s m && (not s || l)) → s ≡ m
same true true l t = refl
same true false l t = absurd t
same false true l t = absurd t
same false false l t = refl

low : (s m l : Bool) → T (beq s m && (not s || l)) → s ≡ true → l ≡ true
low true true true t e = refl
low true true false t e = absurd t
low true false l t e = absurd t
low false m l t e = clash cc

type_small : (w : ℕ) → type_of w < 8
unfolding type_of
type_small w = omega arith

-- carried to each two words
module _ (q b : ℕ) where
  at_types : T (agrees (type_of q) (type_of b))
  at_types = under 8 (agrees (type_of q)) (under 8 (λ t. below 8 (agrees t)) tested (type_of q) (type_small q)) (type_of b) (type_small b)

  by_table : suits_of (type_of q) (type_of b) ≡ among (type_of b) (row (type_of q))
  by_table = same (suits_of (type_of q) (type_of b)) (among (type_of b) (row (type_of q))) (leb 4 (type_of b)) at_types

  pub match_good : matches_of q b ≡ true → Passes (good_checks b)
  match_good m = of_good b (parts q b m).good

  pub match_type : matches_of q b ≡ true → 4 ≤ type_of b
  match_type m =
      leb-true 4 (type_of b)
      (low (suits_of (type_of q) (type_of b)) (among (type_of b) (row (type_of q))) (leb 4 (type_of b)) at_types (parts q b m).suits)

-- "A boiler frame of even parity matches a question when the id is equal and the type is 6 or 7, or 4 for a READ-DATA, or 5 for a
-- WRITE-DATA", its spare bits zero, and only then: of every two words (`of_fields`)
module _ (q b : Fields) (hq : Fit q) (hb : Fit b) where
  abbrev u : Read q
  u = fields q hq

  abbrev v : Read b
  v = fields b hb

  row_is : among (type_of (word_of b)) (row (type_of (word_of q))) ≡ among b.type (row q.type)
  row_is = rw (u.type, v.type)

  pub matching : matches_of (word_of q) (word_of b) ≡ true → Matches q b
  unfolding even_of
  matching m =
      let p = parts (word_of q) (word_of b) m in
      let g = passes_good (word_of b) (match_good (word_of q) (word_of b) m) in
      record {
        even = eqb-true (ones (word_of b) % 2) 0 g.even;
        clear = sym v.spare ∙ g.clear;
        same_id = sym u.id ∙ p.id ∙ v.id;
        answers_type = among_is b.type (row q.type) (sym row_is ∙ sym (by_table (word_of q) (word_of b)) ∙ p.suits);
      }

  pub matched : Matches q b → matches_of (word_of q) (word_of b) ≡ true
  unfolding even_of
  matched m =
      joined (word_of q) (word_of b)
      (record {
        good = good (word_of b) (good_passes (word_of b) (record { even = eq-eqb (ones (word_of b) % 2) 0 m.even; clear = v.spare ∙ m.clear }));
        id = u.id ∙ m.same_id ∙ sym v.id;
        suits = by_table (word_of q) (word_of b) ∙ row_is ∙ is_among b.type (row q.type) m.answers_type;
      })
