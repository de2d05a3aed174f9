-- Two things that can be seen of one talk: where they agree on the clock, on what comes and on what goes out, what is promised of the one is
-- promised of the other. So the promises of a line alone are those of each line of the box.
-- Assumes nothing.
use Prim.Native.Nat.{ℕ, suc}
use mathlib.Core.Path.{◌≡◌}
use mathlib.Core.Logic.{inl, inr, ⊎_elim}
use native.Mathlib.Omega.{arith}
use Rattle.refusals.specs.declared.Refusal.{Refusal}
use Rattle.refusals.specs.declared.Refusal.TheVariants.{OutOfTime, NoMatch, SpareBits}
use Rattle.word.specs.declared.Frame.{Frame}
use Rattle.turns.specs.declared.Talker.{Talker}
use Rattle.turns.specs.declared.Talker.TheVariants.{Thermostat, Modbus}
use Rattle.turns.specs.Scene.{Scene, AnswersOn, Unanswered, Over, Latest, Talks, RestsSince, fresh, ended, Comes, Waits, Last, nobody, somebody}
use Rattle.turns.specs.Relay.{Relayed, Answered, Wanted, Relay}
use Rattle.turns.specs.Talks.{Rested, Turns, Sound, Listens, Meets, GoodOnly}

-- what can be seen of A can be seen of B
pub record Into (A B : Scene) : Type 0 where
  pub clock : (n : ℕ) → A.clock n ≡ B.clock n
  pub ticks : (n : ℕ) → A.Tick n → B.Tick n
  pub holds : (n : ℕ) (f : Frame) → A.Holds n f → B.Holds n f
  pub takes : (n : ℕ) → A.Takes n → B.Takes n
  pub boils : (n : ℕ) (b : Frame) → A.Boils n b → B.Boils n b
  pub goes : (x : Talker) (n : ℕ) (f : Frame) → A.Goes x n f → B.Goes x n f
  pub passes : (n : ℕ) (b : Frame) → A.Passes n b → B.Passes n b

pub record Agrees (A B : Scene) : Type 0 where
  pub to : Into A B
  pub back : Into B A
  pub drops : (n : ℕ) → A.Drops n → B.Drops n
  pub refuses : (n : ℕ) (r : Refusal) → A.Refuses n r → B.Refuses n r

module _ {A B : Scene} (i : Into A B) where
  answers : (j : ℕ) (q : Frame) (k : ℕ) (b : Frame) → AnswersOn A j q k b → AnswersOn B j q k b
  answers j q k b a =
      let x = i.clock (suc k) in
      let y = i.clock (suc j) in
      record { frame = i.boils k b a.frame; matches = a.matches; after = a.after; from = omega (arith, a.from); upto = omega (arith, a.upto) }

  comes : (x : Talker) (n : ℕ) → Comes A x n → Comes B x n
  comes Thermostat n c = (c.0, i.holds n c.0 c.1)
  comes Modbus n c = i.takes n c

module _ {A B : Scene} (i : Into A B) (o : Into B A) where
  unanswered : (j : ℕ) (q : Frame) (n : ℕ) → Unanswered A j q n → Unanswered B j q n
  unanswered j q n u m c lt a = u m c lt (answers o j q m c a)

  over : (j : ℕ) (q : Frame) (k : ℕ) → Over A j q k → Over B j q k
  over j q k v =
      let x = i.clock (suc k) in
      let y = i.clock (suc j) in
      record {
        after = v.after;
        by = ⊎_elim (λ a. inl (a.0, answers i j q k a.0 a.1)) (λ t. inr (i.ticks k t.0, omega (arith, t.1))) v.by;
        first = unanswered j q k v.first;
      }

  latest : (n : ℕ) (x : Talker) (j : ℕ) (q : Frame) → Latest A n x j q → Latest B n x j q
  latest n x j q l = record { before = l.before; out = i.goes x j q l.out; hushed = λ m y p lo hi on. l.hushed m y p lo hi (o.goes y m p on) }

  talks : (n : ℕ) (x : Talker) (j : ℕ) (q : Frame) → Talks A n x j q → Talks B n x j q
  talks n x j q t =
      let a = i.clock n in
      let b = i.clock (suc j) in
      record { latest = latest n x j q t.latest; short = omega (arith, t.short); first = unanswered j q n t.first }

  since : (n : ℕ) {c : ℕ} → RestsSince A n c → RestsSince B n c
  since n (fresh u) = rw (i.clock 0) (fresh (λ m x q lt on. u m x q lt (o.goes x m q on)))
  since n (ended x j q k l v lt) = rw (i.clock (suc k)) (ended x j q k (latest n x j q l) (over j q k v) lt)

  waits : (x : Talker) (n : ℕ) → Waits A x n → Waits B x n
  waits x n w = record {
    i = w.i;
    before = w.before;
    comes = comes i x w.i w.comes;
    unsent = λ m q lo hi on. w.unsent m q lo hi (o.goes x m q on);
  }

  last : (n : ℕ) {x : Talker} → Last A n x → Last B n x
  last n (nobody u) = nobody (λ m x q lt on. u m x q lt (o.goes x m q on))
  last n (somebody x j q l) = somebody x j q (latest n x j q l)

  rested : (n : ℕ) → Rested A n → Rested B n
  rested n r =
      let a = i.clock (suc n) in
      record { ticks = i.ticks n r.ticks; c = r.c; since = since n r.since; full = omega (arith, r.full) }

  listens : (n : ℕ) (q : Frame) → Listens A n q → Listens B n q
  listens n q l =
      let a = i.clock n in
      let b = i.clock (suc l.j) in
      record { x = l.x; j = l.j; talks = talks n l.x l.j q l.talks; from = omega (arith, l.from); upto = omega (arith, l.upto) }

  answered : (k : ℕ) (b : Frame) (j : ℕ) (f : Frame) → Answered A k b j f → Answered B k b j f
  answered k b j f a = record { own = i.goes Thermostat j f a.own; answers = answers i j f k b a.answers; first = unanswered j f k a.first }

  wanted : (k : ℕ) (b : Frame) → Wanted A k b → Wanted B k b
  wanted k b w =
      let x = i.clock (suc k) in
      let y = i.clock (suc w.i) in
      record {
        i = w.i;
        j = w.j;
        f = w.f;
        came = i.holds w.i w.f w.came;
        sending = w.sending;
        answered = answered k b w.j w.f w.answered;
        recent = omega (arith, w.recent);
        latest = λ m g lo hi on. w.latest m g lo hi (o.holds m g on);
      }

  relayed : (j : ℕ) (f : Frame) → Relayed A j f → Relayed B j f
  relayed j f r = record {
    i = r.i;
    before = r.before;
    came = i.holds r.i f r.came;
    latest = λ m g lo hi on. r.latest m g lo hi (o.holds m g on);
    once = λ m g lo hi on. r.once m g lo hi (o.goes Thermostat m g on);
  }

module _ {A B : Scene} (c : Agrees A B) where
  i : Into A B
  i = c.to

  o : Into B A
  o = c.back

  pub turns_too : Turns A → Turns B
  turns_too t = record {
    rested = λ n x f on. rested i o n (t.rested n x f (o.goes x n f on));
    waited = λ n x f on. waits i o x n (t.waited n x f (o.goes x n f on));
    starts = λ n x full on.
        let out = t.starts n x (rested o i n full) (waits o i x n on) in
        (out.0, out.1, i.goes out.0 n out.1 out.2);
    fair = λ n x y f on w off. last i o n (t.fair n x y f (o.goes x n f on) (waits o i y n w) off);
  }

  sound : (n : ℕ) (b : Frame) → Sound B n b → Sound A n b
  sound n b x = record { frame = o.boils n b x.frame; good = x.good; typed = x.typed }

  pub meets_too : Meets A → Meets B
  meets_too t = record {
    seven = λ n b x none. c.refuses n OutOfTime (t.seven n b (sound n b x) (λ q l. none q (listens i o n q l)));
    eight = λ n b q x l off. c.refuses n NoMatch (t.eight n b q (sound n b x) (listens o i n q l) off);
    sixteen = λ n b is even set. c.refuses n SpareBits (t.sixteen n b (o.boils n b is) even set);
  }

  pub good_too : GoodOnly A → GoodOnly B
  good_too t = record {
    held = λ n f on. t.held n f (o.holds n f on);
    out = λ n f on. t.out n f (o.goes Thermostat n f on);
    answer = λ j q k b a. t.answer j q k b (answers o j q k b a);
    passed = λ k b on. t.passed k b (o.passes k b on);
  }

  pub relay_too : Relay A → Relay B
  relay_too t = record {
    unchanged = λ j f on. relayed i o j f (t.unchanged j f (o.goes Thermostat j f on));
    only_wanted = λ k b on. wanted i o k b (t.only_wanted k b (o.passes k b on));
    all_wanted = λ k b w. i.passes k b (t.all_wanted k b (wanted o i k b w));
    dropped = λ k b j f an off. c.drops k (t.dropped k b j f (answered o i k b j f an) (λ w. off (wanted i o k b w)));
  }
