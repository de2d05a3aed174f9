-- Numbers of two and of four bytes are read as they were written, at any place. One lemma over the place: a word's halves, a
-- Modbus message's fields and a reply's cite it.
-- Assumes nothing.
use mathlib.Core.Path.{◌≡◌, refl, sym, ap, ap₂, ◌∙◌}
use mathlib.Core.List.{List, [], ◌∷◌, ◌++◌, append_assoc}
use Prim.Native.Nat.{ℕ, zero, suc, ◌+◌, ◌*◌, ◌/◌, ◌%◌, ◌≤◌, ◌<◌}
use native.Mathlib.Omega.{arith}
use native.Mathlib.Nat.{div-add-mod'}
use lib.ListN.{length, get_or, length-append, get_or-eq_default}
use lib.Seq.{get_or-append_seam, get_or-append-add}
use Rattle.places.specs.Bytes.{pair_at, pair, word_at, quad}

-- two bytes are read as they were written
pub pair_back : (p s : List ℕ) (v : ℕ) → pair_at (p ++ pair v s) (length p) ≡ v
unfolding pair_at
pair_back p s v = ap₂ (λ (x y : ℕ). x * 256 + y) (get_or-append_seam p (v / 256) (v % 256 ∷ s) 0) (get_or-append-add p (pair v s) 1 0) ∙ div-add-mod' v 256

-- and so are four: the lemma above at two places
pub word_back : (p s : List ℕ) (w : ℕ) → word_at (p ++ quad w s) (length p) ≡ w
unfolding word_at
word_back p s w =
    let high = w / 65536 in
    let q = p ++ (high / 256 ∷ high % 256 ∷ []) in
    let regroup : p ++ quad w s ≡ q ++ pair (w % 65536) s = sym (append_assoc p (high / 256 ∷ high % 256 ∷ []) (pair (w % 65536) s)) in
    ap₂ (λ (x y : ℕ). x * 65536 + y) (pair_back p (pair (w % 65536) s) high)
    (ap₂ (λ (l : List ℕ) (n : ℕ). pair_at l n) regroup (sym (length-append p (high / 256 ∷ high % 256 ∷ []))) ∙ pair_back q s (w % 65536))
    ∙ div-add-mod' w 65536

-- and the other way round: two bytes of a list are those of the number read there
pub pair_again : (s : List ℕ) (p v : ℕ) {t q : List ℕ} → get_or s (p + 1) 0 < 256 → pair_at s p ≡ v → t ≡ q → get_or s p 0 ∷ get_or s (p + 1) 0 ∷ t ≡ pair v q
unfolding pair_at
pair_again s p v {t} {q} low is e =
    let high : get_or s p 0 ≡ v / 256 = omega arith in
    let rest : get_or s (p + 1) 0 ≡ v % 256 = omega arith in
    ap₂ (λ (x : ℕ) (l : List ℕ). x ∷ l) high (ap₂ (λ (x : ℕ) (l : List ℕ). x ∷ l) rest e)

-- n elements from place p on
abbrev pub spell : List ℕ → ℕ → ℕ → List ℕ
spell s p zero = []
spell s p (suc n) = get_or s p 0 ∷ spell s (suc p) n

one_on : (x : ℕ) (s : List ℕ) (p n : ℕ) → spell (x ∷ s) (suc p) n ≡ spell s p n
one_on x s p zero = refl
one_on x s p (suc n) = ap (λ (l : List ℕ). get_or s p 0 ∷ l) (one_on x s (suc p) n)

-- a list of n elements is these
pub spelled : (s : List ℕ) (n : ℕ) → length s ≡ n → s ≡ spell s 0 n
spelled s n e = all s ∙ ap (spell s 0) e
  where
    all : (l : List ℕ) → l ≡ spell l 0 (length l)
    all [] = refl
    all (x ∷ l) = ap (λ (r : List ℕ). x ∷ r) (all l ∙ sym (one_on x l 0 (length l)))

-- past the end there is nothing but 0
pub pair_past : (s : List ℕ) (p : ℕ) → length s ≤ p → pair_at s p ≡ 0
unfolding pair_at
pair_past s p h =
    let far : length s ≤ p + 1 = omega arith in
    ap₂ (λ (x y : ℕ). x * 256 + y) (get_or-eq_default s 0 h) (get_or-eq_default s 0 far)
