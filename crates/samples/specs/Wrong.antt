-- Samples that 01 refuses, with its numbers: 24 idle samples or more, and a line that keeps to 01's distances up to its last sample, which
-- doesn't. (A sample of 2 to 255 is refused in every state: `bad_sample_4` of proofs/Bounds.)
-- Assumes nothing: these are definitions.
use Rattle.std.specs.Prelude.{◌≡◌, Bool, true, false, List, [], ◌∷◌, ◌++◌, ℕ, ◌+◌, ◌≤◌, ◌<◌, length, replicate}
use Rattle.samples.specs.Edges.{level_of, Stretch, plain, crossed, Allowed, AllAllowed, turned, level_after, leg_samples, levels_of}

-- a start bit whose middle edge is at s, and after it these stretches, fewer than a frame's 33: the last middle edge isn't the 34th
pub record Kept (s : ℕ) (l : List Stretch) : Type 0 where
  pub from : 8 ≤ s
  pub upto : s ≤ 14
  pub allowed : AllAllowed l
  pub few : length l ≤ 32

-- these samples are refused at their last, with this number
pub data Wrong : List ℕ → ℕ → Type 0 where
  -- "the start bit's middle edge follows at distance 8 to 14. An earlier edge is refusal 1"
  start_early : (n s : ℕ) → 1 ≤ s → s ≤ 7 → Wrong (levels_of n s []) 1
  -- "no edge up to 14 is refusal 2, given at distance 15 for either level there"
  start_late : (n : ℕ) (b : Bool) → Wrong (replicate (24 + n) 0 ++ (replicate 15 1 ++ (level_of b ∷ []))) 2
  -- "the next middle edge comes at 18 to 23 .. At most one other edge may stand between, at 8 to 14. Any other edge up to 17 is refusal 1.":
  -- one before 8, one at 15 to 17, a second one
  before_8 : (n s : ℕ) (l : List Stretch) (d : ℕ) → Kept s l → 1 ≤ d → d ≤ 7 → Wrong (levels_of n s (l ++ (plain d ∷ []))) 1
  past_14 : (n s : ℕ) (l : List Stretch) (d : ℕ) → Kept s l → 15 ≤ d → d ≤ 17 → Wrong (levels_of n s (l ++ (plain d ∷ []))) 1
  second : (n s : ℕ) (l : List Stretch) (e d : ℕ) → Kept s l → 8 ≤ e → e ≤ 14 → e < d → d ≤ 17 → Wrong (levels_of n s (l ++ (crossed e d ∷ []))) 1
  -- "No middle edge up to 23 is refusal 2, given at distance 24 for either level there": with no other edge, and with one
  late : (n s : ℕ) (l : List Stretch) (b : Bool) → Kept s l →
      Wrong (levels_of n s l ++ (leg_samples (level_after false l) (plain 24) ++ (level_of b ∷ []))) 2
  late_crossed : (n s : ℕ) (l : List Stretch) (e : ℕ) (b : Bool) → Kept s l → 8 ≤ e → e ≤ 14 →
      Wrong (levels_of n s l ++ (leg_samples (level_after false l) (crossed e 24) ++ (level_of b ∷ []))) 2
  -- "The 34th must fall, else refusal 3."
  rises : (n s : ℕ) (l : List Stretch) (t : Stretch) → Kept s l → length l ≡ 32 → Allowed t → turned (level_after false l) t ≡ true →
      Wrong (levels_of n s (l ++ (t ∷ []))) 3
