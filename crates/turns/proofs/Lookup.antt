-- The look-up of a status question (02, Ask 2) is one: it gives one frame at most, and none where no such frame went out, so demand 3 leaves nothing
-- open of an order's own word. And it is the same in any notes that agree on what went out for the thermostat.
-- Assumes nothing.
use Prim.Native.Nat.{ℕ, ◌*◌, ◌/◌}
use mathlib.Core.Path.{◌≡◌, sym, ap, ◌∙◌, subst}
use native.Mathlib.Omega.{arith}
use Rattle.word.proofs.Fields.{one_word}
use Rattle.word.specs.declared.Frame.{Frame}
use Rattle.word.specs.Frame.{id_of, value_of}
use Rattle.word.specs.Fields.{BuiltFrom}
use Rattle.turns.specs.declared.Query.{Query}
use Rattle.turns.specs.declared.Talker.TheVariants.{Thermostat}
use Rattle.turns.specs.Events.{Notes, sent}
use Rattle.turns.specs.Exchange.{Shows, LastShown, Own, plain, status, Lacks}
use Rattle.turns.proofs.Clock.{meet}

module _ (s : Notes) where
  -- two that are the last are the same
  last_one : (i n : ℕ) (f g : Frame) → LastShown s i n f → LastShown s i n g → f ≡ g
  last_one i n f g a b =
      let is : a.m ≡ b.m =
      meet a.m b.m (λ l. a.no_later b.m g l b.before b.shows) (λ l. b.no_later a.m f l a.before a.shows) in
      let x : s b.m ≡ sent Thermostat f = subst (λ (m : ℕ). s m ≡ sent Thermostat f) is a.shows.out in
      let y : s b.m ≡ sent Thermostat g = b.shows.out in
      cc

  pub own_one : (j : ℕ) (w : Query) (p q : Frame) → Own s j w p → Own s j w q → p.word ≡ q.word
  unfolding id_of value_of
  own_one j w p q (plain e x) (plain d y) = x ∙ sym y
  own_one j w p q (plain e x) (status d g l y) = absurd (e d)
  own_one j w p q (status e f k x) (plain d y) = absurd (d e)
  own_one j w p q (status e f k x) (status d g l y) =
      let same : value_of g.word / 256 * 256 ≡ value_of f.word / 256 * 256 =
      ap (λ (z : Frame). value_of z.word / 256 * 256) (last_one (id_of w.word) j g f l k) in
      one_word 0 (id_of w.word) (value_of f.word / 256 * 256) p.word q.word (omega arith) (omega arith) (omega arith) x
      (subst (λ (v : ℕ). BuiltFrom 0 (id_of w.word) v q.word) same y)

  pub own_lacks : (k : ℕ) (w : Query) (q : Frame) → Own s k w q → Lacks s k w → ⊥
  own_lacks k w q (plain e x) l = e l.exchange
  own_lacks k w q (status e f t x) l = l.never t.m f t.before t.shows

-- what goes out for the thermostat by the notes s goes out by the notes t
abbrev pub Follows : Notes → Notes → Type 0
Follows s t = (m : ℕ) (f : Frame) → s m ≡ sent Thermostat f → t m ≡ sent Thermostat f

module _ (s t : Notes) (to : Follows s t) (back : Follows t s) where
  shown_back : (i m : ℕ) (f : Frame) → Shows t i m f → Shows s i m f
  shown_back i m f x = record { out = back m f x.out; reads = x.reads; names = x.names }

  pub own_over : (j : ℕ) (w : Query) (q : Frame) → Own s j w q → Own t j w q
  own_over j w q (plain e x) = plain e x
  own_over j w q (status e f l x) =
      status e f
      (record {
        m = l.m;
        before = l.before;
        shows = record { out = to l.m f l.shows.out; reads = l.shows.reads; names = l.shows.names };
        no_later = λ k g lo hi sh. l.no_later k g lo hi (shown_back (id_of w.word) k g sh);
      })
      x

  pub lacks_over : (k : ℕ) (w : Query) → Lacks s k w → Lacks t k w
  lacks_over k w l = record { exchange = l.exchange; never = λ m f lt sh. l.never m f lt (shown_back (id_of w.word) m f sh) }
