-- A message that becomes no order: since it is none, since it has no status to send, or since another one is under way; and one that does.
-- Assumes nothing.
use Rattle.std.specs.Prelude.{Option, Some, None, is_some}
use mathlib.Core.Path.{◌≡◌, refl, sym, ap, ◌∙◌}
use mathlib.Core.Bool.{Bool, true, false, cond}
use mathlib.Core.List.{[], ◌∷◌}
use Prim.Native.Nat.{ℕ}
use denote.Enum.Declared.{tag_of}
use Rattle.word.proofs.Clash.{clash}
use types.Run.{OneOf, hit, miss}
use Rattle.modbus.specs.declared.Reading.{Reading}
use Rattle.modbus.specs.declared.Reading.TheVariants.{Silent, AtOnce, Accepted}
use Rattle.modbus.specs.contracts.Reading as reading
use Rattle.turns.specs.declared.Status.{Status}
use Rattle.turns.specs.Line.{Line}
use Rattle.modbus.specs.declared.Order.{Order}
use Rattle.modbus.specs.Outcomes.{lacking_of}
use Rattle.modbus.specs.Wrapping.{Wrapping}
use Rattle.promises.specs.declared.Asking.{Asking}
use Rattle.promises.specs.Box.{Gateway, Moved}
use Rattle.promises.specs.Four.{line_of}
use Rattle.promises.specs.Entries.{Does, gives, lack_of, asks_of, read_of, replied, taken_of}
use Rattle.promises.proofs.Entries.Laws.{asks_lacking, asks_free, asks_busy}
use Rattle.gateway.specs.Reads.{line_asked, able_by, able_of, at_once_of}

-- the box stays, and this is told and written
abbrev pub said_at_once : Wrapping → ℕ → Gateway → Reading → Does Moved
said_at_once W t g r = gives (record { gateway = g; told = (at_once_of W t r).result }) (at_once_of W t r).wrote

-- what is no order stays what it is
pub not_asked : (m : Status) (r : Reading) → OneOf (0 ∷ 1 ∷ []) (tag_of reading.the_type r) → r ≡ able_by m r
unfolding able_by
not_asked m (Silent n) k = refl
not_asked m (AtOnce x) k = refl
not_asked m (Accepted o) k = absurd (miss (0 ∷ 1 ∷ []) 2 tt k)

-- of the variants that are no order, and of an order under way
pub unaccepted : (r : Reading) → ((o : Order) → r ≡ Accepted o → ⊥) → OneOf (0 ∷ 1 ∷ []) (tag_of reading.the_type r)
unaccepted (Silent n) never = hit (0 ∷ 1 ∷ []) 0 tt
unaccepted (AtOnce x) never = hit (0 ∷ 1 ∷ []) 1 tt
unaccepted (Accepted o) never = absurd (never o refl)

pub free : (a : Option Asking) → is_some a ≡ false → a ≡ None
free None e = refl
free (Some p) e = clash cc

module _ (W : Wrapping) (t : ℕ) (g : Gateway) where
  -- the reading r, and what `able_of` makes of it
  abbrev able : Reading → Reading
  able r = able_of g.lines r

  abbrev asking : Order → Asking
  asking o = record { order = o; transaction = t }

  -- it is what the status of the line x makes of it, where x is the order's own
  pub able_at : (r : Reading) (x : Line) (s : Reading) → s ≡ able_by x.status r → x ≡ line_of g.lines (line_asked r) → s ≡ able r
  able_at r x s e is = e ∙ ap (λ (l : Line). able_by l.status r) is

  under : (a : Option Asking) (r : Reading) → g.asked ≡ a → is_some a ≡ true → read_of W g t r ≡ said_at_once W t g (able r)
  unfolding read_of replied at_once_of able_by lack_of
  under None r e k = clash cc
  under (Some p) (Silent n) e k = refl
  under (Some p) (AtOnce x) e k = refl
  under (Some p) (Accepted o) e k = go (lack_of g.lines o) refl
    where
      go : (b : Bool) → lack_of g.lines o ≡ b → asks_of W g (asking o) ≡ said_at_once W t g (cond b (AtOnce (lacking_of o)) (Accepted o))
      go true l = asks_lacking W g (asking o) l
      go false l = asks_busy W g (asking o) p l e

  pub while_busy : (r : Reading) → is_some g.asked ≡ true → read_of W g t r ≡ said_at_once W t g (able r)
  while_busy r k = under g.asked r refl k

  pub no_order : (r : Reading) → OneOf (0 ∷ 1 ∷ []) (tag_of reading.the_type (able r)) → read_of W g t r ≡ said_at_once W t g (able r)
  unfolding read_of replied at_once_of able_by lack_of
  no_order (Silent n) k = refl
  no_order (AtOnce x) k = refl
  no_order (Accepted o) k = go (lack_of g.lines o) refl k
    where
      go : (b : Bool) → lack_of g.lines o ≡ b → OneOf (0 ∷ 1 ∷ []) (tag_of reading.the_type (cond b (AtOnce (lacking_of o)) (Accepted o))) →
          asks_of W g (asking o) ≡ said_at_once W t g (cond b (AtOnce (lacking_of o)) (Accepted o))
      go true l k = asks_lacking W g (asking o) l
      go false l k = absurd (miss (0 ∷ 1 ∷ []) 2 tt k)

  -- and one that does: it has a status, if it needs one
  pub an_order : (r : Reading) (o : Order) → Accepted o ≡ able r → g.asked ≡ None → read_of W g t r ≡ gives (taken_of g (asking o)) []
  unfolding read_of able_by lack_of
  an_order (Silent n) o e free = clash cc
  an_order (AtOnce x) o e free = clash cc
  an_order (Accepted p) o e free = go (lack_of g.lines p) refl e
    where
      go : (b : Bool) → lack_of g.lines p ≡ b → Accepted o ≡ cond b (AtOnce (lacking_of p)) (Accepted p) → asks_of W g (asking p) ≡ gives (taken_of g (asking o)) []
      go true l e = clash cc
      go false l e = let same : o ≡ p = cc in rw same (asks_free W g (asking p) l free)

  -- which its message asked
  pub was_asked : (r : Reading) (o : Order) → Accepted o ≡ able r → r ≡ Accepted o
  unfolding able_by lack_of
  was_asked (Silent n) o e = clash cc
  was_asked (AtOnce x) o e = clash cc
  was_asked (Accepted p) o e = go (lack_of g.lines p) e
    where
      go : (b : Bool) → Accepted o ≡ cond b (AtOnce (lacking_of p)) (Accepted p) → Accepted p ≡ Accepted o
      go true e = clash cc
      go false e = sym e
