-- The order under way, followed through a history: from its acceptance it stays until its own line gives the outcome.
-- Assumes nothing.
use Rattle.std.specs.Prelude.{Option, Some, None}
use Prim.Native.Nat.{ℕ, zero, suc, ◌<◌}
use mathlib.Core.Path.{◌≡◌, refl, sym, ap, ◌∙◌, subst}
use mathlib.Core.Logic.{◌⊎◌, inl, inr, ⊎_elim}
use native.Mathlib.Omega.{arith}
use Rattle.word.proofs.Clash.{clash}
use Rattle.turns.specs.Events.{Events, Notes, about, ends, No, Never}
use Rattle.turns.specs.Events as line
use Rattle.turns.specs.Promise.{View, Demand3, UnderWay}
use Rattle.turns.specs.History.{notes, sight}
use Rattle.turns.proofs.Clock.{last_or}
use Rattle.turns.proofs.Demand3.{demand3}
use Rattle.modbus.specs.declared.Reply.{Reply}
use Rattle.modbus.specs.Wrapping.{Wrapping}
use Rattle.modbus.specs.Lawful.{Lawful}
use Rattle.promises.specs.declared.Asking.{Asking}
use Rattle.promises.specs.Notes.{nothing, concern_of}
use Rattle.promises.specs.Parts.{part_in}
use Rattle.promises.specs.Settle.{settled_in}
use Rattle.promises.specs.Inputs.{Inputs}
use Rattle.promises.specs.History.{next, box_at, given}
use Rattle.promises.specs.Projection.{events_on}
use Rattle.promises.specs.Demand3.{box_view}
use Rattle.promises.proofs.Projection.Project.{note_at, note_is}
use Rattle.promises.proofs.Demand3.Effects.{settled_by, Effect, begins, stays, finishes, named_at, effect_at}

-- what settles an order is a note of its outcome
came_ends : (o : Asking) (s : line.Note) (u : ℕ) (r : Reply) (n : ℕ) → settled_in o (part_in s) ≡ Some (u, r, n) → about s ≡ ends
came_ends o line.nothing u r n e = clash cc
came_ends o line.held u r n e = clash cc
came_ends o (line.sent t f) u r n e = clash cc
came_ends o (line.passed f) u r n e = clash cc
came_ends o line.dropped u r n e = clash cc
came_ends o line.accepted u r n e = clash cc
came_ends o (line.exception m) u r n e = clash cc
came_ends o (line.answer f m) u r n e = refl
came_ends o (line.no_answer m) u r n e = refl
came_ends o (line.refused m) u r n e = clash cc

module _ {W : Wrapping} (law : Lawful W) (h : Inputs) where
  -- what can be seen of the box; the events and notes of line k, and demand 3 for it, on its own history
  abbrev pub seen : View Asking
  seen = box_view W h (given W h)

  abbrev pub E : ℕ → Events
  E k = events_on W k h (given W h)

  abbrev pub S : ℕ → Notes
  S k = notes (E k)

  pub on_line : (k : ℕ) → Demand3 1950 (sight (E k))
  on_line k = demand3 (E k)

  -- the order under way before input n
  abbrev pub under : ℕ → Option Asking
  under n = (box_at W h n).asked

  pub under_next : (n : ℕ) → under (suc n) ≡ (next W (box_at W h n) (h n)).asked
  unfolding box_at
  under_next n = refl

  pub same_order : (n : ℕ) (o p : Asking) → under n ≡ Some o → under n ≡ Some p → p ≡ o
  same_order n o p a b = let e : Some p ≡ Some o = sym b ∙ a in cc

  -- ---- one input, while the order o is under way and its line gives no outcome

  pub record Keeps (n : ℕ) (o : Asking) : Type 0 where
    pub still : under (suc n) ≡ Some o
    pub aside : concern_of (given W h n).told ≡ nothing

  keeps : (n : ℕ) (o : Asking) → under n ≡ Some o → (about (S o.order.line n) ≡ ends → ⊥) → Keeps n o
  keeps n o was off = go (effect_at law h n)
    where
      go : Effect W (box_at W h n) (h n) (next W (box_at W h n) (h n)) (given W h n) → Keeps n o
      go (begins p was' is ask t) = clash (let e : Some o ≡ None = sym was ∙ was' in cc)
      go (stays same z u) = record { still = under_next n ∙ same ∙ was; aside = z }
      go (finishes p r w was' is op t wr) =
          let q : p ≡ o = same_order n o p was was' in
          let e : settled_by W (box_at W h n) (h n) (given W h n).told o ≡ Some (p.transaction, r, w) =
          subst (λ (x : Asking). settled_by W (box_at W h n) (h n) (given W h n).told x ≡ Some (p.transaction, r, w)) q op in
          absurd
          (off
          (ap about (note_is W h (named_at law h n o was) n) ∙ came_ends o (note_at W (box_at W h n) o.order.line (h n) (given W h n).told) p.transaction r w e))

  -- from acceptance on, as long as its line gives no outcome, the order is under way
  pub track : (i : ℕ) (o : Asking) → under (suc i) ≡ Some o → (n : ℕ) → i < n → Never (S o.order.line) ends i n → under n ≡ Some o
  track i o first zero lt nev = absurd (omega arith)
  track i o first (suc m) lt nev = go (last_or i m lt) (track i o first m)
    where
      go : (i < m) ⊎ (i ≡ m) → (i < m → Never (S o.order.line) ends i m → under m ≡ Some o) → under (suc m) ≡ Some o
      go (inl old) before = (keeps m o (before old (λ x lo hi on. nev x lo (omega arith) on)) (λ on. nev m old (omega arith) on)).still
      go (inr is) before = subst (λ (x : ℕ). under (suc x) ≡ Some o) is first

  -- and nothing is told of an outcome or of another order
  pub quiet : (i : ℕ) (o : Asking) → under (suc i) ≡ Some o → (n : ℕ) → Never (S o.order.line) ends i n → (m : ℕ) → i < m → m < n →
      concern_of (given W h m).told ≡ nothing
  quiet i o first n nev m lo hi = (keeps m o (track i o first m lo (λ x l g on. nev x l (omega arith) on)) (λ on. nev m lo hi on)).aside

  -- and so it is as long as no outcome is told
  pub lasts : (i : ℕ) (o : Asking) → under (suc i) ≡ Some o → (n : ℕ) → i < n → No seen.Ends i n → under n ≡ Some o
  lasts i o first zero lt none = absurd (omega arith)
  lasts i o first (suc m) lt none = go (last_or i m lt) (lasts i o first m)
    where
      on : under m ≡ Some o → i < m → Effect W (box_at W h m) (h m) (next W (box_at W h m) (h m)) (given W h m) → under (suc m) ≡ Some o
      on was old (begins p free is ask t) = clash (let e : Some o ≡ None = sym was ∙ free in cc)
      on was old (stays same z u) = under_next m ∙ same ∙ was
      on was old (finishes p r w was' is op t wr) = absurd (none m old (omega arith) (_, w, t))

      go : (i < m) ⊎ (i ≡ m) → (i < m → No seen.Ends i m → under m ≡ Some o) → under (suc m) ≡ Some o
      go (inl old) before = on (before old (λ x lo hi e. none x lo (omega arith) e)) old (effect_at law h m)
      go (inr is) before = subst (λ (x : ℕ). under (suc x) ≡ Some o) is first

  -- where the order under way comes from
  pub record From (n : ℕ) (o : Asking) : Type 0 where
    pub way : UnderWay seen n
    pub is : way.w ≡ o

  pub source : (n : ℕ) (o : Asking) → under n ≡ Some o → From n o
  unfolding box_at
  source zero o e = clash (let z : None ≡ Some o = e in cc)
  source (suc m) o e = go (effect_at law h m) (source m)
    where
      now_is : (next W (box_at W h m) (h m)).asked ≡ Some o
      now_is = sym (under_next m) ∙ e

      go : Effect W (box_at W h m) (h m) (next W (box_at W h m) (h m)) (given W h m) → ((p : Asking) → under m ≡ Some p → From m p) → From (suc m) o
      go (begins p was is ask tl) before =
          record {
            way = record { i = m; w = p; before = omega arith; accepted = record { asked = ask; taken = tl }; waiting = λ x lo hi t. omega arith };
            is = let z : Some p ≡ Some o = sym is ∙ now_is in cc;
          }
      go (stays same z u) before =
          let b = before o (sym same ∙ now_is) in
          record {
            way = record {
              i = b.way.i;
              w = b.way.w;
              before = omega (arith, b.way.before);
              accepted = b.way.accepted;
              waiting = λ x lo hi t.
                  ⊎_elim (λ l. b.way.waiting x lo l t)
                  (λ is.
                  let two = ap concern_of t.2 in
                  let z' : concern_of (given W h x).told ≡ nothing = subst (λ (y : ℕ). concern_of (given W h y).told ≡ nothing) (sym is) z in
                  clash cc)
                  (last_or x m hi);
            };
            is = b.is;
          }
      go (finishes p r n was is op tl wr) before = clash (let z : None ≡ Some o = sym is ∙ now_is in cc)
