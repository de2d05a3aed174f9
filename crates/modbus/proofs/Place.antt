-- Bytes in front of a room: what is placed behind them, or before them, and what stays behind all.
-- Assumes nothing.
use mathlib.Core.Path.{◌≡◌, refl, sym, ap, ap₂, ◌∙◌}
use mathlib.Core.List.{List, [], ◌++◌, append_assoc, append-nil}
use Prim.Native.Nat.{ℕ, ◌+◌, ◌-◌, ◌≤◌}
use native.Mathlib.Nat.{le_of_eq}
use lib.ListN.{length, take, drop, length-append, length-drop, drop_of_length-le}
use lib.Seq.{take_all, take_at, drop_at, drop-drop, length-take-le}
use borrow.Rule.Slice.PartMut.{put_mid}
use Rattle.modbus.specs.Wire.{placed}

-- all that follows a place, as a part of a slice
pub rest : (k : ℕ) (l : List ℕ) → take (length l - k) (drop k l) ≡ drop k l
rest k l = take_all (length l - k) (drop k l) (le_of_eq (length-drop k l))

-- a body of n bytes is placed, and these bytes behind it
module _ (b d room last part : List ℕ) (n : ℕ) (en : n ≡ length b) (el : last ≡ placed b room)
    (ep : part ≡ placed d (take (length last - n) (drop n last))) where
  left : drop n last ≡ drop (length b) room
  left = ap (drop n) el ∙ drop_at b (drop (length b) room) n (sym en)

  filled : part ≡ d ++ drop (length b + length d) room
  filled = ep ∙ ap (placed d) (rest n last ∙ left) ∙ ap (λ (x : List ℕ). d ++ x) (drop-drop (length d) (length b) room)

  pub behind_body : put_mid n (length last - n) last part ≡ placed (b ++ d) room
  behind_body =
      let front : take n last ≡ b = ap (take n) el ∙ take_at b (drop (length b) room) n (sym en) in
      let none : drop (length last - n) (drop n last) ≡ [] = drop_of_length-le (drop n last) {i = length last - n} (le_of_eq (length-drop n last)) in
      ap₂ (λ (x y : List ℕ). x ++ y) front
      (ap₂ (λ (x y : List ℕ). x ++ y) filled none ∙ append-nil (d ++ drop (length b + length d) room))
      ∙ sym (append_assoc b d (drop (length b + length d) room))
      ∙ ap (λ (m : ℕ). (b ++ d) ++ drop m room) (sym (length-append b d))

-- a body of n bytes is placed behind the first k of a room, and then as many bytes as these in front of it
module _ (k : ℕ) (head b room v last : List ℕ) (hk : length head ≡ k) (ev : v ≡ placed b (take (length room - k) (drop k room)))
    (el : last ≡ placed head (put_mid k (length room - k) room v)) (h : k ≤ length room) where
  part : v ≡ b ++ drop (k + length b) room
  part = ev ∙ ap (placed b) (rest k room) ∙ ap (λ (x : List ℕ). b ++ x) (drop-drop (length b) k room)

  pub behind_head : last ≡ placed (head ++ b) room
  behind_head =
      let front : length (take k room) ≡ length head = length-take-le k room h ∙ sym hk in
      let none : drop (length room - k) (drop k room) ≡ [] = drop_of_length-le (drop k room) {i = length room - k} (le_of_eq (length-drop k room)) in
      let n : k + length b ≡ length (head ++ b) = ap (λ (m : ℕ). m + length b) (sym hk) ∙ sym (length-append head b) in
      el
      ∙ ap (λ (x : List ℕ). head ++ x)
      (drop_at (take k room) (v ++ drop (length room - k) (drop k room)) (length head) front
      ∙ ap₂ (λ (x y : List ℕ). x ++ y) part none
      ∙ append-nil (b ++ drop (k + length b) room))
      ∙ sym (append_assoc head b (drop (k + length b) room))
      ∙ ap (λ (m : ℕ). (head ++ b) ++ drop m room) n

-- "Bytes of a lent room behind the reply .. stay", and those in front are the reply's
pub behind_stays : (b room : List ℕ) → (take (length b) (placed b room) ≡ b) × (drop (length b) (placed b room) ≡ drop (length b) room)
behind_stays b room = (take_at b (drop (length b) room) (length b) refl, drop_at b (drop (length b) room) (length b) refl)
