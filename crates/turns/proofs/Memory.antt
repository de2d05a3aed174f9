-- What a line remembers of the thermostat's own status is what the history shows, and a status question that waits has its status.
--     agrees           at each event, from what a step does to it (`changes`)
--     sure             an order that waits is no status question, or its status is known
--     gives            so the frame of the order that waits is its own
--     lack, lack_back  the line lacks a status exactly where the history does
-- Assumes nothing.
use Rattle.std.specs.Prelude.{Option, Some, None, is_none}
use Prim.Native.Nat.{ℕ, zero, suc, ◌*◌, ◌/◌, ◌<◌}
use mathlib.Core.Path.{◌≡◌, refl, ap, ◌∙◌, subst}
use mathlib.Core.Bool.{Bool, true, false, cond, ◌&&◌, ◌||◌}
use mathlib.Core.Logic.{◌⊎◌, inl, inr, ⊎_elim}
use native.Mathlib.Omega.{arith}
use lib.Dec.{eqb}
use borrow.Author.Tests.{eqb-true, eqb-false}
use Rattle.word.proofs.Clash.{clash}
use Rattle.word.proofs.Match.{both}
use Rattle.word.proofs.Fields.{built_from}
use Rattle.word.specs.declared.Frame.{Frame}
use Rattle.word.specs.Frame.{type_of, id_of, value_of, read_data}
use Rattle.word.specs.Fields.{BuiltFrom}
use Rattle.turns.specs.Line.{Line, Step}
use Rattle.turns.specs.declared.Query.{Query}
use Rattle.turns.specs.declared.Talker.TheVariants.{Thermostat}
use Rattle.turns.specs.declared.Status.{Status}
use Rattle.turns.specs.Status.{heating, ventilation, exchanges_of, keeps_of, shows_of, flags_for, lacks_of, status_word, word_by}
use Rattle.turns.specs.Turns.{aged, line_older, ended_of}
use Rattle.turns.specs.Events.{Event, Note, sent, Events, Notes, note_of, about, relays}
use Rattle.turns.specs.Exchange.{Exchanges, Shows, LastShown, Own, plain, status, Lacks}
use Rattle.turns.specs.History.{line_at, said_at, notes}
use Rattle.turns.proofs.Clock.{last_or}
use Rattle.turns.proofs.Life.{Gives}
use Rattle.turns.proofs.Happens.{own, Happens, passing, resting, nobody, relay_sent, order_sent, talking, relay_silent, order_silent, happens}
use Rattle.turns.proofs.Happens.{relay_held, relay_refused, order_answered, relay_answered, relay_lost, boiler_refused}
use Rattle.turns.proofs.Happens.{order_lacking, order_taken, order_busy}

-- ---- a status question, by the line's test and in 02's words

either : (a b : Bool) → (a || b) ≡ true → (a ≡ true) ⊎ (b ≡ true)
either true b e = inl refl
either false b e = inr e

pub exchanges : (w : Query) → exchanges_of w ≡ true → Exchanges w
unfolding exchanges_of
exchanges w e =
    let i = id_of w.word in
    let b = both w.alone (eqb i heating || eqb i ventilation) e in
    record { alone = b.0; named = ⊎_elim (λ x. inl (eqb-true i 0 x)) (λ x. inr (eqb-true i 70 x)) (either (eqb i heating) (eqb i ventilation) b.1) }

pub exchanged : (w : Query) → Exchanges w → exchanges_of w ≡ true
unfolding exchanges_of
exchanged w x = rw x.alone (⊎_elim (λ e. rw e) (λ e. rw e) x.named)

-- READ-DATA with the id and the byte
built : (i b : ℕ) → i < 256 → b < 256 → BuiltFrom 0 i (b * 256) (status_word i b)
unfolding status_word
built i b hi hb = built_from 0 i (b * 256) (omega arith) hi (omega arith)

-- ---- over the notes

-- what the status becomes, by what is said
data Changes (m : Status) (t : Note) : Status → Type 0 where
  showing : (f : Frame) → t ≡ sent Thermostat f → Changes m t (shows_of m f)
  keeping : (about t ≡ relays → ⊥) → Changes m t m

module _ (s : Notes) where
  -- the flags x are those of the last frame with the id i before event n
  abbrev Agrees : ℕ → ℕ → Option ℕ → Type 0
  Agrees i n None = (m : ℕ) (f : Frame) → m < n → Shows s i m f → ⊥
  Agrees i n (Some b) = (f : Frame) × LastShown s i n f × (value_of f.word / 256 ≡ b)

  -- nothing is shown at event n
  quiet : (i n : ℕ) (x : Option ℕ) → ((f : Frame) → Shows s i n f → ⊥) → Agrees i n x → Agrees i (suc n) x
  quiet i n None off a = λ m f lt sh. ⊎_elim (λ l. a m f l sh) (λ (is : m ≡ n). off f (subst (λ (k : ℕ). Shows s i k f) is sh)) (last_or m n lt)
  quiet i n (Some b) off a =
      let l = a.1 in (
        a.0,
        record {
          m = l.m;
          before = omega (arith, l.before);
          shows = l.shows;
          no_later = λ k g lo up sh.
              ⊎_elim (λ lt. l.no_later k g lo lt sh) (λ (is : k ≡ n). off g (subst (λ (j : ℕ). Shows s i j g) is sh)) (last_or k n up);
        },
        a.2,
      )

  -- the frame f goes out for the thermostat at event n
  shown : (i n : ℕ) (x : Option ℕ) (f : Frame) → s n ≡ sent Thermostat f → Agrees i n x → Agrees i (suc n) (keeps_of i x f)
  unfolding keeps_of
  shown i n x f es a = go (eqb (type_of f.word) read_data) (eqb (id_of f.word) i) refl refl
    where
      same : (g : Frame) → Shows s i n g → f ≡ g
      same g sh = let o = sh.out in cc

      go : (p q : Bool) → eqb (type_of f.word) read_data ≡ p → eqb (id_of f.word) i ≡ q →
          Agrees i (suc n) (keeps_of i x f)
      go true true ep eq =
          rw (ep, eq) (
            f,
            record {
              m = n;
              before = omega arith;
              shows = record { out = es; reads = eqb-true (type_of f.word) 0 ep; names = eqb-true (id_of f.word) i eq };
              no_later = λ k g lo up sh. omega arith;
            },
            refl,
          )
      go true false ep eq = rw (ep, eq) (quiet i n x (λ g sh. eqb-false (id_of f.word) i eq (ap (λ (y : Frame). id_of y.word) (same g sh) ∙ sh.names)) a)
      go false q ep eq = rw ep (quiet i n x (λ g sh. eqb-false (type_of f.word) 0 ep (ap (λ (y : Frame). type_of y.word) (same g sh) ∙ sh.reads)) a)

  pub record Agree (n : ℕ) (m : Status) : Type 0 where
    pub heats : Agrees 0 n m.heating
    pub vents : Agrees 70 n m.ventilation

  agree_next : (n : ℕ) {m k : Status} → Changes m (s n) k → Agree n m → Agree (suc n) k
  unfolding shows_of
  agree_next n {m = m} (showing f e) a =
      record { heats = shown 0 n m.heating f e a.heats; vents = shown 70 n m.ventilation f e a.vents }
  agree_next n {m = m} (keeping off) a = record {
    heats = quiet 0 n m.heating (λ f sh. off (ap about sh.out)) a.heats;
    vents = quiet 70 n m.ventilation (λ f sh. off (ap about sh.out)) a.vents;
  }

  -- what is remembered for a status question is remembered for its id
  flags : (n : ℕ) (m : Status) (i : ℕ) → (i ≡ 0) ⊎ (i ≡ 70) → Agree n m → Agrees i n (flags_for m i)
  unfolding flags_for
  flags n m i (inl e) a = rw e a.heats
  flags n m i (inr e) a = rw e a.vents

  pub lack : (n : ℕ) (m : Status) (w : Query) → Agree n m → lacks_of m w ≡ true → Lacks s n w
  unfolding lacks_of
  lack n m w a e =
      let b = both (exchanges_of w) (is_none (flags_for m (id_of w.word))) e in
      let x = exchanges w b.0 in
      record { exchange = x; never = never (flags_for m (id_of w.word)) b.1 (flags n m (id_of w.word) x.named a) }
    where
      never : (x : Option ℕ) → is_none x ≡ true → Agrees (id_of w.word) n x → (k : ℕ) (f : Frame) → k < n → Shows s (id_of w.word) k f → ⊥
      never None is ag = ag
      never (Some b) is ag = clash cc

  pub lack_back : (n : ℕ) (m : Status) (w : Query) → Agree n m → Lacks s n w → lacks_of m w ≡ true
  unfolding lacks_of
  lack_back n m w a l =
      rw (exchanged w l.exchange) (go (flags_for m (id_of w.word)) (flags n m (id_of w.word) l.exchange.named a))
    where
      go : (x : Option ℕ) → Agrees (id_of w.word) n x → is_none x ≡ true
      go None ag = refl
      go (Some b) ag = absurd (l.never ag.1.m ag.0 ag.1.before ag.1.shows)

  -- what goes out is the query's own frame
  own_of : (n : ℕ) (m : Status) (w : Query) → Agree n m → lacks_of m w ≡ false → Own s n w (own m w)
  unfolding lacks_of word_by id_of value_of
  own_of n m w a has = go (exchanges_of w) refl
    where
      known : (x : Option ℕ) → flags_for m (id_of w.word) ≡ x → exchanges_of w ≡ true → Agrees (id_of w.word) n x → Own s n w (own m w)
      known None ex eb ag = let no : true ≡ false = rw (eb, ex) at has in clash cc
      known (Some b) ex eb ag =
          let f = ag.0 in
          let hi : value_of f.word / 256 ≡ b = ag.2 in
          status (exchanges w eb) f ag.1
          (rw (eb, ex, hi) (built (id_of w.word) b (omega arith) (omega arith)))

      go : (b : Bool) → exchanges_of w ≡ b → Own s n w (own m w)
      go false eb = plain (λ x. let y = exchanged w x in clash cc) (rw eb)
      go true eb = known (flags_for m (id_of w.word)) refl eb (flags n m (id_of w.word) (exchanges w eb).named a)

-- ---- over a line

changes : {l : Line} {e : Event} {s : Step} → Happens l e s → Changes l.status (note_of s.said) s.line.status
unfolding line_older ended_of
changes (passing l) = keeping (λ on. omega arith)
changes (resting l r lt) = keeping (λ on. omega arith)
changes (nobody l r ge eh eo) = keeping (λ on. omega arith)
changes (relay_sent l r f t ge eh first) = showing f refl
changes (order_sent l r w u ge eo first) = keeping (λ on. omega arith)
changes (talking l x q a u lt) = keeping (λ on. omega arith)
changes (relay_silent l q a u ge) = keeping (λ on. omega arith)
changes (order_silent l q a u ge) = keeping (λ on. omega arith)
changes (relay_held l f) = keeping (λ on. omega arith)
changes (relay_refused l f r) = keeping (λ on. omega arith)
changes (order_answered l q a u f ma lo hi) = keeping (λ on. omega arith)
changes (relay_answered l q a u f ma lo hi eh le) = keeping (λ on. omega arith)
changes (relay_lost l q a u f ma lo hi lost) = keeping (λ on. omega arith)
changes (boiler_refused l f r un) = keeping (λ on. omega arith)
changes (order_lacking l w lack) = keeping (λ on. omega arith)
changes (order_taken l w has free) = keeping (λ on. omega arith)
changes (order_busy l w has under) = keeping (λ on. omega arith)

-- an order that waits is no status question, or its status is known
abbrev Sure : Option (Query × ℕ) → Status → Type 0
Sure None m = Unit {0}
Sure (Some (w, u)) m = lacks_of m w ≡ false

sure_older : (o : Option (Query × ℕ)) (m : Status) → Sure o m → Sure (aged o) m
unfolding aged
sure_older None m z = tt
sure_older (Some (w, u)) m z = z

-- what is known stays known
known_stays : (i : ℕ) (x : Option ℕ) (f : Frame) → is_none x ≡ false → is_none (keeps_of i x f) ≡ false
unfolding keeps_of
known_stays i x f z = go (eqb (type_of f.word) read_data) (eqb (id_of f.word) i) refl refl
  where
    go : (p q : Bool) → eqb (type_of f.word) read_data ≡ p → eqb (id_of f.word) i ≡ q → is_none (keeps_of i x f) ≡ false
    go true true ep eq = rw (ep, eq)
    go true false ep eq = rw (ep, eq) z
    go false q ep eq = rw ep z

sure_shows : (o : Option (Query × ℕ)) (m : Status) (f : Frame) → Sure o m → Sure o (shows_of m f)
unfolding lacks_of flags_for shows_of
sure_shows None m f z = tt
sure_shows (Some (w, u)) m f z = go (exchanges_of w) (eqb (id_of w.word) heating) z
  where
    go : (x b : Bool) → (x && is_none (cond b m.heating m.ventilation)) ≡ false →
        (x && is_none (cond b (keeps_of heating m.heating f) (keeps_of ventilation m.ventilation f))) ≡ false
    go false b z = refl
    go true true z = known_stays heating m.heating f z
    go true false z = known_stays ventilation m.ventilation f z

sure_next : {l : Line} {e : Event} {s : Step} → Happens l e s → Sure l.order l.status → Sure s.line.order s.line.status
unfolding line_older ended_of
sure_next (passing l) z = z
sure_next (resting l r lt) z = sure_older l.order l.status z
sure_next (nobody l r ge eh eo) z = sure_older l.order l.status z
sure_next (relay_sent l r f t ge eh first) z = sure_shows (aged l.order) l.status f (sure_older l.order l.status z)
sure_next (order_sent l r w u ge eo first) z = tt
sure_next (talking l x q a u lt) z = sure_older l.order l.status z
sure_next (relay_silent l q a u ge) z = sure_older l.order l.status z
sure_next (order_silent l q a u ge) z = tt
sure_next (relay_held l f) z = z
sure_next (relay_refused l f r) z = z
sure_next (order_answered l q a u f ma lo hi) z = tt
sure_next (relay_answered l q a u f ma lo hi eh le) z = z
sure_next (relay_lost l q a u f ma lo hi lost) z = z
sure_next (boiler_refused l f r un) z = z
sure_next (order_lacking l w lack) z = z
sure_next (order_taken l w has free) z = has
sure_next (order_busy l w has under) z = z

-- ---- from the fresh start

pub agrees : (h : Events) (n : ℕ) → Agree (notes h) n (line_at h n).status
unfolding line_at said_at
agrees h zero = record { heats = λ m f lt sh. omega arith; vents = λ m f lt sh. omega arith }
agrees h (suc n) = agree_next (notes h) n (changes (happens (line_at h n) (h n))) (agrees h n)

sure : (h : Events) (n : ℕ) → Sure (line_at h n).order (line_at h n).status
unfolding line_at
sure h zero = tt
sure h (suc n) = sure_next (happens (line_at h n) (h n)) (sure h n)

pub gives : (h : Events) (n : ℕ) → Gives (Own (notes h) n) (line_at h n)
gives h n w u e = own_of (notes h) n (line_at h n).status w (agrees h n) (subst (λ (o : Option (Query × ℕ)). Sure o (line_at h n).status) e (sure h n))
