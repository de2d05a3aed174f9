-- Acceptance, in the box and on the line: an order on a line is an accepted message's, a message that is accepted asks one order, and its line
-- accepts it.
-- Assumes nothing.
use Rattle.std.specs.Prelude.{Some, None}
use Prim.Native.Nat.{ℕ, suc}
use mathlib.Core.Path.{◌≡◌, refl, sym, ap, ap₂, ◌∙◌, subst}
use mathlib.Core.Bool.{Bool, true, false, cond}
use mathlib.Core.List.{[]}
use lib.Dec.{eqb}
use borrow.Author.Tests.{eqb-true, eq-eqb, le-leb}
use Rattle.word.proofs.Clash.{clash}
use Rattle.turns.specs.declared.Query.{Query}
use Rattle.turns.specs.Events.{Event, ends, Never}
use Rattle.turns.specs.Events as line
use Rattle.turns.specs.Promise.{Accepted, UnderWay, OrderTold, taken, lacking, busy}
use Rattle.turns.specs.History.{sight}
use Rattle.modbus.specs.declared.Order.{Order}
use Rattle.modbus.specs.declared.Reading.TheVariants as reading
use Rattle.modbus.specs.Wrapping.{Wrapping, reads}
use Rattle.modbus.specs.Lawful.{Lawful}
use Rattle.promises.specs.declared.Asking.{Asking}
use Rattle.promises.specs.Box.{Gateway}
use Rattle.promises.specs.Notes.{BoxNote, accepted, concern_of}
use Rattle.promises.specs.Settle.{question_of}
use Rattle.promises.specs.Entries.{taken_of}
use Rattle.promises.specs.Inputs.{Input, tick, message, Inputs, Gift, Four}
use Rattle.promises.specs.History.{next, nowhere, box_at, given}
use Rattle.promises.specs.Projection.{event_on}
use Rattle.promises.specs.Demand3.{AsksFor}
use Rattle.promises.proofs.Entries.Cases.{gift, Case, aside, ticks, relays, hears, takes, case_of}
use Rattle.promises.proofs.Projection.Sight.{tick_seen, order_seen}
use Rattle.promises.proofs.Demand3.Effects.{Effect, begins, stays, finishes, unit_of_lem, effect_at}
use Rattle.promises.proofs.Demand3.Lacking.{has_status, lack_there}
use Rattle.promises.proofs.Demand3.Under.{seen, E, S, under, under_next, track, on_line}

abbrev asking : Order → ℕ → Asking
asking o t = record { order = o; transaction = t }

-- an input that is an order to line k is an accepted message
record Orders (W : Wrapping) (k : ℕ) (w : Query) (x : Input) (g' : Gateway) (s : Gift) : Type 0 where
  pub o : Asking
  pub asks : AsksFor W o x
  pub taken : s.told ≡ accepted
  pub line : o.order.line ≡ k
  pub word : question_of o.order ≡ w
  pub first : g'.asked ≡ Some o

module _ (W : Wrapping) (g : Gateway) {k : ℕ} (f : Four k) (w : Query) where
  other : (e : Event) (b : Bool) → (e ≡ line.order w → ⊥) → cond b e line.pass ≡ line.order w → ⊥
  other e true off q = off q
  other e false off q = clash cc

  orders : {x : Input} {g' : Gateway} {s : Gift} → Case W g x g' s → event_on W k x s.told ≡ line.order w → Orders W k w x g' s
  unfolding taken_of
  orders (aside t r out z is still unseen) e = let p : line.pass ≡ line.order w = sym (unseen k f) ∙ e in clash cc
  orders (ticks n h) e =
      let p : line.tick ≡ line.order w = sym (tick_seen W k accepted (tick n) (record { room = n; is = refl; enough = h })) ∙ e in
      clash cc
  orders (relays {l} x mine) e = absurd (other (line.thermostat x) (eqb l k) (λ q. clash cc) e)
  orders (hears {l} x n h mine) e =
      absurd
      (other (line.boiler x) (eqb l k) (λ q. clash cc)
      (sym (ap (λ (b : Bool). cond b (cond (eqb l k) (line.boiler x) line.pass) line.pass) (le-leb 16 n h)) ∙ e))
  orders {x} (takes o has free asks) e = go (eqb o.order.line k) refl (sym (order_seen W k x o asks) ∙ e)
    where
      go : (b : Bool) → eqb o.order.line k ≡ b → cond b (line.order (question_of o.order)) line.pass ≡ line.order w →
          Orders W k w x (taken_of g o).gateway (gift accepted [] nowhere)
      go true p q = record { o = o; asks = asks; taken = refl; line = eqb-true o.order.line k p; word = cc; first = refl }
      go false p q = clash cc

module _ {W : Wrapping} (law : Lawful W) (h : Inputs) where
  -- an order on line k is an accepted message's
  pub record Begun (k i : ℕ) (w : Query) : Type 0 where
    pub o : Asking
    pub accepted : Accepted (seen law h) i o
    pub line : o.order.line ≡ k
    pub word : question_of o.order ≡ w
    pub first : under law h (suc i) ≡ Some o

  pub order_on_lem : {k : ℕ} → Four k → (i : ℕ) (w : Query) → E law h k i ≡ line.order w → Begun k i w
  order_on_lem f i w e =
      let b = orders W (box_at W h i) f w (case_of W (box_at W h i) (h i)) e in
      record {
        o = b.o;
        accepted = record { asked = b.asks; taken = b.taken };
        line = b.line;
        word = b.word;
        first = under_next law h i ∙ b.first;
      }

  -- an order on line k that has no outcome is the one under way
  pub record Held (k i : ℕ) (w : Query) (n : ℕ) : Type 0 where
    pub begun : Begun k i w
    pub waits : under law h n ≡ Some begun.o

  pub held : {k : ℕ} → Four k → (n : ℕ) (u : UnderWay (sight (E law h k)) n) → Held k u.i u.w n
  held {k} f n u =
      let b = order_on_lem f u.i u.w u.accepted.asked in
      record {
        begun = b;
        waits = track law h u.i b.o b.first n u.before (subst (λ (l : ℕ). Never (S law h l) ends u.i n) (sym b.line) u.waiting);
      }

  -- a message asks one order
  one_order : (o p : Asking) (x : Input) → AsksFor W o x → AsksFor W p x → p ≡ o
  one_order o p x a b =
      let c : message a.bytes a.brings.room ≡ message b.bytes b.brings.room = sym a.brings.is ∙ b.brings.is in
      let d : a.bytes ≡ b.bytes = cc in
      let q : reading.Accepted p.order ≡ reading.Accepted o.order = sym b.order ∙ ap (reads W) (sym d) ∙ a.order in
      let t : p.transaction ≡ o.transaction = sym b.own ∙ ap W.transaction (sym d) ∙ a.own in
      let e : p.order ≡ o.order = cc in
      ap₂ asking e t

  -- an accepted message's line accepts its order
  pub record Taken (i : ℕ) (o : Asking) : Type 0 where
    pub unit : Four o.order.line
    pub free : under law h i ≡ None
    pub first : under law h (suc i) ≡ Some o
    pub there : Accepted (sight (E law h o.order.line)) i (question_of o.order)

  pub taken_on : (i : ℕ) (o : Asking) → Accepted (seen law h) i o → Taken i o
  taken_on i o acc = go (effect_at law h i)
    where
      unit : Four o.order.line
      unit = unit_of_lem law o (h i) acc.asked

      asked : E law h o.order.line i ≡ line.order (question_of o.order)
      asked =
          ap (λ (t : BoxNote). event_on W o.order.line (h i) t) acc.taken ∙ order_seen W o.order.line (h i) o acc.asked
          ∙ ap (λ (b : Bool). cond b (line.order (question_of o.order)) line.pass) (eq-eqb o.order.line o.order.line refl)

      -- no line of the box is asked twice
      not_twice : under law h i ≡ None → UnderWay (sight (E law h o.order.line)) i → ⊥
      not_twice free u = let b = held unit i u in let e : None ≡ Some b.begun.o = sym free ∙ b.waits in clash cc

      ready : under law h i ≡ None → OrderTold (sight (E law h o.order.line)) i (question_of o.order) → S law h o.order.line i ≡ line.accepted
      ready free (taken e has none) = e
      ready free (lacking e l) =
          let x = has_status W (box_at W h i) o (h i) acc.asked acc.taken in
          let y = lack_there law h i o unit l in
          clash cc
      ready free (busy e has u) = absurd (not_twice free u)

      go : Effect W (box_at W h i) (h i) (next W (box_at W h i) (h i)) (given W h i) → Taken i o
      go (begins p was is ask t) = record {
        unit = unit;
        free = was;
        first = under_next law h i ∙ is ∙ ap Some (one_order o p (h i) acc.asked ask);
        there = record {
          asked = asked;
          taken = ready was ((on_line law h o.order.line).ready i (question_of o.order) asked);
        };
      }
      go (stays same z u) = let one = ap concern_of acc.taken in clash cc
      go (finishes p r n was is op t w) = let tk = acc.taken in clash cc
