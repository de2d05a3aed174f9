-- No body of bytes is left out: each is one of those of which 01's order of checks speaks (specs/Becomes).
-- Assumes nothing.
use Prim.Native.Nat.{ℕ, ◌≤◌, ◌<◌}
use mathlib.Core.Path.{◌≡◌, refl, sym, ap, ◌∙◌, subst}
use mathlib.Core.Logic.{◌⊎◌, inl, inr}
use mathlib.Core.List.{List}
use native.Mathlib.Omega.{arith}
use lib.Dec.{lit<}
use Rattle.modbus.specs.Shape.{unit_of, function_of}
use Rattle.modbus.specs.Numbers.{Verdict}
use Rattle.modbus.specs.Table.{
  TableRow,
  row_03,
  row_04,
  row_06,
  row_10,
  row_17_read,
  row_17_write_00,
  row_17_write_02,
  row_17_both_00,
  row_17_both_01,
  row_17_both_02,
  row_41_0000,
  row_41_0010,
  row_41_0020,
  Named,
  body_in,
  asked_in,
  read_one,
  write_17,
  both_17,
  say_41,
}
use Rattle.modbus.specs.Becomes.{Bytes, Serves, Spelled, in_03, in_04, in_06, in_10, in_17_read, in_17_write, in_17_both, in_41, Line, Becomes}
use Rattle.modbus.specs.Becomes as be
use Rattle.modbus.proofs.Apart.{equal, upto, served, spelled_out}

abbrev Some : List ℕ → Type 0
Some b = (v : Verdict) × Becomes b v

-- a request on a line
module _ (b : List ℕ) (u : ℕ) (on : Line u) where
  asked : (r : TableRow) (o v x : ℕ) → Named r o → o < 65536 → v < 65536 → x < 65536 → b ≡ body_in r u o v x → Some b
  asked r o v x named ho hv hx e = (
    asked_in r u o v,
    be.asks (record { row = r; unit = u; offset = o; value = v; other = x })
        (record { from = on.0; upto = on.1; named = named; offset = ho; value = hv; other = hx }) e,
  )

  -- 17 with a write alone
  alone : (r w v : ℕ) → r < 65536 → w < 65536 → v < 65536 → b ≡ write_17 u r w v → Some b
  alone r w v hr hw hv e = go (upto w 0x00FF) (upto w 0x01FF) (upto w 0x02FF)
    where
      go : (w ≤ 0x00FF) ⊎ (0x00FF < w) → (w ≤ 0x01FF) ⊎ (0x01FF < w) → (w ≤ 0x02FF) ⊎ (0x02FF < w) → Some b
      go (inl a) _ _ = asked row_17_write_00 w v r a hw hv hr e
      go (inr a) (inl k) _ = (_, be.unnamed_write u r w v on e (inl (omega arith, k)))
      go (inr a) (inr k) (inl l) = asked row_17_write_02 w v r (omega arith, l) hw hv hr e
      go (inr a) (inr k) (inr l) = (_, be.unnamed_write u r w v on e (inr (omega arith)))

  -- 17 with both, at one offset
  at_one : (o v : ℕ) → o < 65536 → v < 65536 → b ≡ both_17 u o o v → Some b
  at_one o v ho hv e = go (upto o 0x00FF) (upto o 0x01FF) (upto o 0x02FF)
    where
      go : (o ≤ 0x00FF) ⊎ (0x00FF < o) → (o ≤ 0x01FF) ⊎ (0x01FF < o) → (o ≤ 0x02FF) ⊎ (0x02FF < o) → Some b
      go (inl a) _ _ = asked row_17_both_00 o v 0 a ho hv (lit< tt) e
      go (inr a) (inl k) _ = asked row_17_both_01 o v 0 (omega arith, k) ho hv (lit< tt) e
      go (inr a) (inr k) (inl l) = asked row_17_both_02 o v 0 (omega arith, l) ho hv (lit< tt) e
      go (inr a) (inr k) (inr l) = (_, be.unnamed_both u o v on e (omega arith))

  both : (r w v : ℕ) → r < 65536 → v < 65536 → b ≡ both_17 u r w v → Some b
  both r w v hr hv e = go (equal r w)
    where
      go : (r ≡ w) ⊎ (r ≡ w → ⊥) → Some b
      go (inl same) = at_one r v hr hv (e ∙ ap (λ (k : ℕ). both_17 u r k v) (sym same))
      go (inr other) = (_, be.unlike u r w v on e other)

  said : (o v m : ℕ) → o < 65536 → v < 65536 → b ≡ say_41 u o v m → Some b
  said o v m ho hv e = go (upto o 0x00FF) (equal m 0x0000) (equal m 0x0010) (equal m 0x0020)
    where
      message : (n : ℕ) → m ≡ n → b ≡ say_41 u o v n
      message n is = e ∙ ap (say_41 u o v) is

      go : (o ≤ 0x00FF) ⊎ (0x00FF < o) → (m ≡ 0x0000) ⊎ (m ≡ 0x0000 → ⊥) → (m ≡ 0x0010) ⊎ (m ≡ 0x0010 → ⊥) → (m ≡ 0x0020) ⊎ (m ≡ 0x0020 → ⊥) → Some b
      go (inr high) _ _ _ = (_, be.high_byte u o v m on e (omega arith))
      go (inl low) (inl is) _ _ = asked row_41_0000 o v 0 low ho hv (lit< tt) (message 0x0000 is)
      go (inl low) (inr x) (inl is) _ = asked row_41_0010 o v 0 low ho hv (lit< tt) (message 0x0010 is)
      go (inl low) (inr x) (inr y) (inl is) = asked row_41_0020 o v 0 low ho hv (lit< tt) (message 0x0020 is)
      go (inl low) (inr x) (inr y) (inr z) = (_, be.other_message u o v m on e low x y z)

  on_line : {f : ℕ} → Spelled u b f → Some b
  on_line (in_03 o l e) = asked row_03 o 0 0 tt l (lit< tt) (lit< tt) e
  on_line (in_04 o l e) = asked row_04 o 0 0 tt l (lit< tt) (lit< tt) e
  on_line (in_06 o v l k e) = asked row_06 o v 0 tt l k (lit< tt) e
  on_line (in_10 o v l k e) = asked row_10 o v 0 tt l k (lit< tt) e
  on_line (in_17_read r w l k e) = asked row_17_read r 0 w tt l (lit< tt) k e
  on_line (in_17_write r w v l k j e) = alone r w v l k j e
  on_line (in_17_both r w v l k j e) = both r w v l j e
  on_line (in_41 o v m l k j e) = said o v m l k e

-- a request to unit 5
register : (b : List ℕ) (f o : ℕ) → ((o ≡ 0x0076) → Some b) → ((o ≡ 0x0076 → ⊥) → Some b) → Some b
register b f o is other = go (equal o 0x0076)
  where
    go : (o ≡ 0x0076) ⊎ (o ≡ 0x0076 → ⊥) → Some b
    go (inl e) = is e
    go (inr n) = other n

own : (b : List ℕ) {f : ℕ} → Serves 5 f → Spelled 5 b f → Some b
own b be.three (in_03 o l e) = register b 3 o (λ is. (_, be.version_03 (e ∙ ap (read_one 5 0x03) is))) (λ other. (_, be.other_03 o e other))
own b be.four (in_04 o l e) = register b 4 o (λ is. (_, be.version_04 (e ∙ ap (read_one 5 0x04) is))) (λ other. (_, be.other_04 o e other))
own b be.six (in_06 o v l k e) = (_, be.own_06 o v e)
own b be.ten (in_10 o v l k e) = (_, be.own_10 o v e)
own b (be.seventeen other) w = absurd (other refl)
own b (be.forty_one other) w = absurd (other refl)

pub total : (b : List ℕ) → Bytes b → (v : Verdict) × Becomes b v
total b h = units (upto 1 (unit_of b)) (upto (unit_of b) 5)
  where
    formed_so : be.Addressed b → Serves (unit_of b) (function_of b) → Spelled (unit_of b) b (function_of b) → (unit_of b ≡ 5) ⊎ (unit_of b ≡ 5 → ⊥) → Some b
    formed_so to s w (inl five) = own b (subst (λ (u : ℕ). Serves u (function_of b)) five s) (subst (λ (u : ℕ). Spelled u b (function_of b)) five w)
    formed_so to s w (inr other) = on_line b (unit_of b) (to.from, omega (arith, to.upto, other)) w

    forms : be.Addressed b → Serves (unit_of b) (function_of b) →
        Spelled (unit_of b) b (function_of b) ⊎ (Spelled (unit_of b) b (function_of b) → ⊥) → Some b
    forms to s (inl w) = formed_so to s w (equal (unit_of b) 5)
    forms to s (inr none) = (_, be.not_spelled to s none)

    functions : be.Addressed b → Serves (unit_of b) (function_of b) ⊎ (Serves (unit_of b) (function_of b) → ⊥) → Some b
    functions to (inl s) = forms to s (spelled_out b h s)
    functions to (inr none) = (_, be.not_served to none)

    low : 1 ≤ unit_of b → unit_of b ≤ 5 → (function_of b ≤ 0x7F) ⊎ (0x7F < function_of b) → Some b
    low lo hi (inl k) = functions (record { from = lo; upto = hi; below = omega arith }) (served (unit_of b) (function_of b))
    low lo hi (inr k) = (_, be.high_function lo hi (omega arith))

    units : (1 ≤ unit_of b) ⊎ (unit_of b < 1) → (unit_of b ≤ 5) ⊎ (5 < unit_of b) → Some b
    units (inl lo) (inl hi) = low lo hi (upto (function_of b) 0x7F)
    units (inl lo) (inr hi) = (_, be.other_unit (inr hi))
    units (inr lo) _ = (_, be.other_unit (inl lo))
