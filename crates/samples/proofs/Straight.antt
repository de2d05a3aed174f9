-- How straight a frame's edges were (02, Ask 3): what the reader keeps of the distances is the smallest and the largest of them, of 33 at 01's
-- distances both lie between 18 and 23, and there is one frame of these stretches.
-- Assumes nothing.
use mathlib.Core.Path.{◌≡◌, refl, sym, ap, ◌∙◌, subst}
use mathlib.Core.Bool.{Bool, false}
use mathlib.Core.Logic.{◌⊎◌, inl, inr}
use mathlib.Core.List.{List, [], ◌∷◌, ◌++◌}
use Prim.Native.Nat.{ℕ, ◌≤◌, ◌<◌, min, max}
use native.Mathlib.Decide.{dec_lt}
use native.Mathlib.Omega.{arith}
use lib.ListN.{length}
use Rattle.word.specs.declared.Frame.{Frame}
use Rattle.samples.specs.Reading.{begun, measured}
use Rattle.samples.specs.Edges.{Stretch, plain, crossed, Allowed, AllAllowed, turned, distance_of, Each, Some, Outermost, Smallest, Largest}
use Rattle.samples.specs.Edges.{FrameOf}
use Rattle.samples.proofs.Stretches.{all_allowed, one_on, shifted_by, so_far, word_after}

-- what is kept of the distances, one after the other
abbrev kept : (ℕ → ℕ → ℕ) → ℕ → List Stretch → ℕ
kept choose x [] = x
kept choose x (t ∷ l) = kept choose (choose x (distance_of t)) l

kept_last : (choose : ℕ → ℕ → ℕ) (x : ℕ) (l : List Stretch) (t : Stretch) →
    kept choose x (l ++ (t ∷ [])) ≡ choose (kept choose x l) (distance_of t)
kept_last choose x [] t = refl
kept_last choose x (u ∷ l) t = kept_last choose (choose x (distance_of u)) l t

-- what holds of each distance holds of one of them
among : (P : ℕ → Type 0) (x : ℕ) (l : List Stretch) → Some (λ d. d ≡ x) l → Each P l → P x
among P x [] s e = absurd s
among P x (t ∷ l) (inl s) e = subst P s e.0
among P x (t ∷ l) (inr s) e = among P x l s e.1

-- the smaller of two, and the larger: which of two numbers is kept, so that both are within
module _ (choose : ℕ → ℕ → ℕ) (Within : ℕ → ℕ → Type 0) (left : (a b : ℕ) → Within (choose a b) a) (right : (a b : ℕ) → Within (choose a b) b)
    (either : (a b : ℕ) → (choose a b ≡ a) ⊎ (choose a b ≡ b)) (same : (a : ℕ) → Within a a)
    (through : (a b c : ℕ) → Within a b → Within b c → Within a c) where
  before : (x : ℕ) (l : List Stretch) → Within (kept choose x l) x
  before x [] = same x
  before x (t ∷ l) =
      let y = choose x (distance_of t) in
      through (kept choose y l) y x (before y l) (left x (distance_of t))

  each : (x : ℕ) (l : List Stretch) → Each (Within (kept choose x l)) l
  each x [] = tt
  each x (t ∷ l) =
      let y = choose x (distance_of t) in
      (through (kept choose y l) y (distance_of t) (before y l) (right x (distance_of t)), each y l)

  more : (x : ℕ) (t : Stretch) (l : List Stretch) → let y = choose x (distance_of t) in
      (kept choose y l ≡ y) ⊎ Some (λ d. d ≡ kept choose y l) l → (y ≡ x) ⊎ (y ≡ distance_of t) →
      (kept choose y l ≡ x) ⊎ Some (λ d. d ≡ kept choose y l) (t ∷ l)
  more x t l (inr s) e = inr (inr s)
  more x t l (inl s) (inl e) = inl (s ∙ e)
  more x t l (inl s) (inr e) = inr (inl (sym (s ∙ e)))

  some : (x : ℕ) (l : List Stretch) → (kept choose x l ≡ x) ⊎ Some (λ d. d ≡ kept choose x l) l
  some x [] = inl refl
  some x (t ∷ l) = more x t l (some (choose x (distance_of t)) l) (either x (distance_of t))

  outermost : (x : ℕ) (l : List Stretch) → (kept choose x l ≡ x → ⊥) → Outermost Within l (kept choose x l)
  outermost x l h = record { one_of = go (some x l); all_within = each x l }
    where
      go : (kept choose x l ≡ x) ⊎ Some (λ d. d ≡ kept choose x l) l → Some (λ d. d ≡ kept choose x l) l
      go (inl e) = absurd (h e)
      go (inr s) = s

-- two numbers that are outermost are the same
outermost_one : (Within : ℕ → ℕ → Type 0) (both : (a b : ℕ) → Within a b → Within b a → a ≡ b) (l : List Stretch) (x y : ℕ) →
    Outermost Within l x → Outermost Within l y → x ≡ y
outermost_one Within both l x y p q = both x y (among (Within x) y l q.one_of p.all_within) (among (Within y) x l p.one_of q.all_within)

-- where all are alike, that is the outermost
pub steady : (Within : ℕ → ℕ → Type 0) (d : ℕ) (l : List Stretch) (t : Stretch) → Within d d → Each (λ e. e ≡ d) (l ++ (t ∷ [])) →
    Outermost Within (l ++ (t ∷ [])) d
steady Within d l t w h = record { one_of = some_of l h; all_within = each_of (l ++ (t ∷ [])) h }
  where
    some_of : (l : List Stretch) → Each (λ e. e ≡ d) (l ++ (t ∷ [])) → Some (λ e. e ≡ d) (l ++ (t ∷ []))
    some_of [] g = inl g.0
    some_of (u ∷ l) g = inl g.0

    each_of : (l : List Stretch) → Each (λ e. e ≡ d) l → Each (Within d) l
    each_of [] g = tt
    each_of (u ∷ l) g = (subst (Within d) (sym g.0) w, each_of l g.1)

bound : (t : Stretch) → Allowed t → (18 ≤ distance_of t) × (distance_of t ≤ 23)
bound (plain d) h = h
bound (crossed e d) h = (h.2, h.3)

bounds : (l : List Stretch) → AllAllowed l → Each (λ d. (18 ≤ d) × (d ≤ 23)) l
bounds [] h = tt
bounds (t ∷ l) h = (bound t h.0, bounds l h.1)

shortest_after : (f : Frame) (a : Bool) (l : List Stretch) → (shifted_by f a l).shortest ≡ kept min f.shortest l
shortest_after f a [] = refl
shortest_after f a (t ∷ l) = shortest_after (one_on f a t) (turned a t) l

longest_after : (f : Frame) (a : Bool) (l : List Stretch) → (shifted_by f a l).longest ≡ kept max f.longest l
longest_after f a [] = refl
longest_after f a (t ∷ l) = longest_after (one_on f a t) (turned a t) l

smaller : (a b : ℕ) → (min a b ≡ a) ⊎ (min a b ≡ b)
smaller a b = go (dec_lt a b)
  where
    go : Dec (a < b) → (min a b ≡ a) ⊎ (min a b ≡ b)
    go (yes h) = inl (omega arith)
    go (no h) = inr (omega arith)

larger : (a b : ℕ) → (max a b ≡ a) ⊎ (max a b ≡ b)
larger a b = go (dec_lt a b)
  where
    go : Dec (a < b) → (max a b ≡ a) ⊎ (max a b ≡ b)
    go (yes h) = inr (omega arith)
    go (no h) = inl (omega arith)

smallest : (x : ℕ) (l : List Stretch) → (kept min x l ≡ x → ⊥) → Smallest l (kept min x l)
smallest =
    outermost min (λ x d. x ≤ d) (λ a b. omega arith) (λ a b. omega arith) smaller (λ a. omega arith)
    (λ a b c h g. omega arith)

largest : (x : ℕ) (l : List Stretch) → (kept max x l ≡ x → ⊥) → Largest l (kept max x l)
largest =
    outermost max (λ x d. d ≤ x) (λ a b. omega arith) (λ a b. omega arith) larger (λ a. omega arith)
    (λ a b c h g. omega arith)

-- what the reader gives at the 34th middle edge
pub frame_of : (l : List Stretch) (t : Stretch) → Allowed t → length l ≡ 32 → FrameOf l t (measured (so_far l) (distance_of t))
frame_of l t ht len =
    let all = l ++ (t ∷ []) in
    let b = bound t ht in
    let s : kept min 255 all ≡ min (so_far l).shortest (distance_of t) =
    kept_last min 255 l t ∙ ap (λ (x : ℕ). min x (distance_of t)) (sym (shortest_after begun false l)) in
    let g : kept max 0 all ≡ max (so_far l).longest (distance_of t) =
    kept_last max 0 l t ∙ ap (λ (x : ℕ). max x (distance_of t)) (sym (longest_after begun false l)) in
    record {
      word = sym (word_after 0 begun false l (omega arith) (omega arith));
      shortest = subst (Smallest all) s (smallest 255 all (λ e. omega arith));
      longest = subst (Largest all) g (largest 0 all (λ e. omega arith));
    }

pub one_frame : (l : List Stretch) (t : Stretch) (f g : Frame) → FrameOf l t f → FrameOf l t g → f ≡ g
one_frame l t f g p q =
    let all = l ++ (t ∷ []) in
    ap (λ (w : ℕ). record { word = w; shortest = f.shortest; longest = f.longest }) (sym p.word ∙ q.word)
    ∙ ap (λ (x : ℕ). record { word = g.word; shortest = x; longest = f.longest })
    (outermost_one (λ x d. x ≤ d) (λ a b h k. omega arith) all f.shortest g.shortest p.shortest q.shortest)
    ∙ ap (λ (x : ℕ). record { word = g.word; shortest = g.shortest; longest = x })
    (outermost_one (λ x d. d ≤ x) (λ a b h k. omega arith) all f.longest g.longest p.longest q.longest)

-- "The two lie between 18 and 23"
pub between : (l : List Stretch) (t : Stretch) (f : Frame) → AllAllowed l → Allowed t → FrameOf l t f →
    (18 ≤ f.shortest) × (f.shortest ≤ f.longest) × (f.longest ≤ 23)
between l t f hl ht p =
    let all = l ++ (t ∷ []) in
    let b = bounds all (all_allowed l (t ∷ []) hl (ht, tt)) in (
      (among (λ d. (18 ≤ d) × (d ≤ 23)) f.shortest all p.shortest.one_of b).0,
      among (λ d. d ≤ f.longest) f.shortest all p.shortest.one_of p.longest.all_within,
      (among (λ d. (18 ≤ d) × (d ≤ 23)) f.longest all p.longest.one_of b).1,
    )
