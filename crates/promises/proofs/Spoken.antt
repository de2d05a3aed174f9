-- What the box puts on its lines and replies to a request, in the numbers of 01's table: from demand 3 for the box, and from what a message of bytes is read
-- as (modbus/proofs/Sent).
-- Assumes nothing.
use Prim.Native.Nat.{ℕ, zero, suc, ◌*◌, ◌/◌, ◌%◌, ◌≤◌, ◌<◌}
use mathlib.Core.Path.{◌≡◌, refl, sym, ap, ◌∙◌, subst}
use mathlib.Core.Logic.{◌⊎◌}
use mathlib.Core.Bool.{true, false}
use mathlib.Core.List.{List}
use native.Mathlib.Omega.{arith}
use lib.Dec.{lit<}
use Rattle.word.specs.declared.Frame.{Frame}
use Rattle.word.specs.Frame.{type_of, id_of, value_of, matches_of}
use Rattle.word.specs.Fields.{BuiltFrom}
use Rattle.word.proofs.Fields.{fields}
use Rattle.word.proofs.Match.{match_type}
use Rattle.turns.specs.declared.Talker.TheVariants.{Modbus}
use Rattle.turns.specs.Events.{Notes, sent}
use Rattle.turns.specs.Exchange.{Exchanges, Shows, LastShown, Own, Lacks}
use Rattle.turns.specs.Exchange as exchange
use Rattle.turns.specs.Promise.{View, UnderWay, OrderTold, Ending, Served}
use Rattle.turns.specs.Promise.{Accepted as Accepts}
use Rattle.turns.specs.Promise as promise
use Rattle.modbus.specs.declared.Order.{Order}
use Rattle.modbus.specs.declared.Form.TheVariants as form
use Rattle.modbus.specs.declared.QuestionType.TheVariants.{ReadData}
use Rattle.modbus.specs.declared.Reading.TheVariants.{Accepted}
use Rattle.modbus.specs.Mapping.{type_number, word_of}
use Rattle.modbus.specs.Numbers.{reading_verdict}
use Rattle.modbus.specs.declared.Outcome.TheVariants.{Answer}
use Rattle.modbus.specs.Outcomes.{answer_of}
use Rattle.modbus.specs.Replied.{ReplyBodies, replies_to}
use Rattle.modbus.specs.Wire.{body_of}
use Rattle.modbus.specs.Wrapping.{Wrapping, reads, writes}
use Rattle.modbus.specs.Lawful.{Lawful}
use Rattle.modbus.specs.Table.{
  TableRow,
  row_03,
  row_04,
  row_06,
  row_10,
  row_17_read,
  row_17_write_00,
  row_17_write_02,
  row_17_both_00,
  row_17_both_01,
  row_17_both_02,
  row_41_0000,
  row_41_0010,
  row_41_0020,
  Request,
  Fits,
  body_of_request,
  asked_in,
  asked_by,
}
use Rattle.modbus.proofs.Verdicts.{reading, typed, reading_back}
use Rattle.modbus.proofs.Questions.{word_says}
use Rattle.modbus.proofs.Sent.{as_sent, order_sent}
use Rattle.modbus.proofs.Answered.{replies, as_replied}
use Rattle.promises.specs.declared.Asking.{Asking}
use Rattle.promises.specs.Inputs.{Input, Inputs, Gifts, Four, Boils, Brings, past}
use Rattle.promises.specs.History.{given}
use Rattle.promises.specs.Demand3.{AsksFor, RepliesAtOnce, Gives, asked_on, out_on, box_view}
use Rattle.promises.specs.Notes.{outcome}
use Rattle.promises.specs.Spoken.{type_in, value_in, id_in, alone_in, AsksStatus, outs_on, RequestWord, plain, status}
use Rattle.promises.specs.Spoken.{NoStatus, RequestWaits, RequestTold, taken, lacking, busy, reply_to, Ended, answered, silent, Bytewise, Speaks, Spoken}
use Rattle.promises.proofs.Demand3.{demand3}

-- ---- an order, by the request that asks it

record Asks (o : Order) (row : TableRow) (u p v : ℕ) : Type 0 where
  line : o.line ≡ u
  type : type_number o.question.t ≡ type_in row
  id : o.question.id ≡ p % 256
  value : o.question.value ≡ value_in row v
  alone : o.question.alone ≡ alone_in row

asks_in : (row : TableRow) (u p v : ℕ) (o : Order) → reading_verdict (Accepted o) ≡ asked_in row u p v → Asks o row u p v
asks_in row_03 u p v o e = record { line = cc; type = cc; id = cc; value = cc; alone = cc }
asks_in row_04 u p v o e = record { line = cc; type = cc; id = cc; value = cc; alone = cc }
asks_in row_06 u p v o e = record { line = cc; type = cc; id = cc; value = cc; alone = cc }
asks_in row_10 u p v o e = record { line = cc; type = cc; id = cc; value = cc; alone = cc }
asks_in row_17_read u p v o e = record { line = cc; type = cc; id = cc; value = cc; alone = cc }
asks_in row_17_write_00 u p v o e = record { line = cc; type = cc; id = cc; value = cc; alone = cc }
asks_in row_17_write_02 u p v o e = record { line = cc; type = cc; id = cc; value = cc; alone = cc }
asks_in row_17_both_00 u p v o e = record { line = cc; type = cc; id = cc; value = cc; alone = cc }
asks_in row_17_both_01 u p v o e = record { line = cc; type = cc; id = cc; value = cc; alone = cc }
asks_in row_17_both_02 u p v o e = record { line = cc; type = cc; id = cc; value = cc; alone = cc }
asks_in row_41_0000 u p v o e = record { line = cc; type = cc; id = cc; value = cc; alone = cc }
asks_in row_41_0010 u p v o e = record { line = cc; type = cc; id = cc; value = cc; alone = cc }
asks_in row_41_0020 u p v o e = record { line = cc; type = cc; id = cc; value = cc; alone = cc }

-- the numbers of a request are those of a frame word
type_small : (row : TableRow) → type_in row < 8
type_small row_03 = lit< tt
type_small row_04 = lit< tt
type_small row_06 = lit< tt
type_small row_10 = lit< tt
type_small row_17_read = lit< tt
type_small row_17_write_00 = lit< tt
type_small row_17_write_02 = lit< tt
type_small row_17_both_00 = lit< tt
type_small row_17_both_01 = lit< tt
type_small row_17_both_02 = lit< tt
type_small row_41_0000 = lit< tt
type_small row_41_0010 = lit< tt
type_small row_41_0020 = lit< tt

value_small : (row : TableRow) (v : ℕ) → v < 65536 → value_in row v < 65536
value_small row_03 v h = lit< tt
value_small row_04 v h = lit< tt
value_small row_06 v h = h
value_small row_10 v h = h
value_small row_17_read v h = lit< tt
value_small row_17_write_00 v h = h
value_small row_17_write_02 v h = h
value_small row_17_both_00 v h = h
value_small row_17_both_01 v h = h
value_small row_17_both_02 v h = h
value_small row_41_0000 v h = h
value_small row_41_0010 v h = h
value_small row_41_0020 v h = h

-- the id that is read off a word that is built
id_of_built : (t i v w : ℕ) → t < 8 → i < 256 → v < 65536 → BuiltFrom t i v w → id_of w ≡ i
id_of_built t i v w ht hi hv b =
    ap id_of b.word
    ∙ (fields (record { parity = b.parity; type = t; spare = 0; id = i; value = v })
    (record { one_bit = b.one_bit; three_bits = ht; four_bits = lit< tt; a_byte = hi; two_bytes = hv })).id

module _ (r : Request) (fits : Fits r) (a : Asking) (e : reading_verdict (Accepted a.order) ≡ asked_by r) where
  abbrev o : Order
  o = a.order

  numbers : Asks o r.row r.unit r.offset r.value
  numbers = asks_in r.row r.unit r.offset r.value o e

  small : value_in r.row r.value < 65536
  small = value_small r.row r.value fits.value

  -- the question's own word is built from the row's numbers, and its id is the request's
  built : BuiltFrom (type_in r.row) (id_in r) (value_in r.row r.value) (word_of o.question)
  built =
      rw (← numbers.type, ← numbers.id, ← numbers.value)
      (word_says o.question (omega (arith, numbers.id)) (omega (arith, numbers.value, small)))

  id_is : id_of (word_of o.question) ≡ id_in r
  id_is =
      id_of_built (type_in r.row) (id_in r) (value_in r.row r.value) (word_of o.question) (type_small r.row) (omega arith) small built

  -- a status question is one by the table
  exchanges : AsksStatus r → Exchanges (asked_on a)
  exchanges x = record { alone = numbers.alone ∙ x.alone; named = subst (λ (i : ℕ). (i ≡ 0) ⊎ (i ≡ 70)) (sym id_is) x.named }

  asks_status : Exchanges (asked_on a) → AsksStatus r
  asks_status x = record { alone = sym numbers.alone ∙ x.alone; named = subst (λ (i : ℕ). (i ≡ 0) ⊎ (i ≡ 70)) id_is x.named }

  -- what is said of the order's line and id is said of the request's
  over : (s : Gifts) (P : Notes → ℕ → Type 0) → P (out_on s a) (id_of (word_of o.question)) → P (outs_on s r.unit) (id_in r)
  over s P x = subst (λ (k : ℕ). P (outs_on s k) (id_in r)) numbers.line (subst (λ (i : ℕ). P (out_on s a) i) id_is x)

  back : (s : Gifts) (P : Notes → ℕ → Type 0) → P (outs_on s r.unit) (id_in r) → P (out_on s a) (id_of (word_of o.question))
  back s P x = subst (λ (i : ℕ). P (out_on s a) i) (sym id_is) (subst (λ (k : ℕ). P (outs_on s k) (id_in r)) (sym numbers.line) x)

  word_of_lem : (s : Gifts) (j : ℕ) (f : Frame) → Own (out_on s a) j (asked_on a) f → RequestWord s j r f.word
  word_of_lem s j f (exchange.plain off is) =
      plain (λ x. off (exchanges x))
      (subst (λ (w : ℕ). BuiltFrom (type_in r.row) (id_in r) (value_in r.row r.value) w) (sym is) built)
  word_of_lem s j f (exchange.status x g l b) =
      status (asks_status x) g (over s (λ (t : Notes) (i : ℕ). LastShown t i j g) l)
      (subst (λ (i : ℕ). BuiltFrom 0 i (value_of g.word / 256 * 256) f.word) id_is b)

  no_status_lem : (s : Gifts) (k : ℕ) → Lacks (out_on s a) k (asked_on a) → NoStatus s k r
  no_status_lem s k l = record {
    asks = asks_status l.exchange;
    never = λ m f lt sh. l.never m f lt (back s (λ (t : Notes) (i : ℕ). Shows t i m f) sh);
  }

  lacks : (s : Gifts) (k : ℕ) → NoStatus s k r → Lacks (out_on s a) k (asked_on a)
  lacks s k n = record {
    exchange = exchanges n.asks;
    never = λ m f lt sh. n.never m f lt (over s (λ (t : Notes) (i : ℕ). Shows t i m f) sh);
  }

-- ---- and the order that a request asks

order_in : (row : TableRow) (u p v : ℕ) → (o : Order) × (reading (asked_in row u p v) ≡ Accepted o)
unfolding reading typed
order_in row_03 u p v = (_, refl)
order_in row_04 u p v = (_, refl)
order_in row_06 u p v = (_, refl)
order_in row_10 u p v = (_, refl)
order_in row_17_read u p v = (_, refl)
order_in row_17_write_00 u p v = (_, refl)
order_in row_17_write_02 u p v = (_, refl)
order_in row_17_both_00 u p v = (_, refl)
order_in row_17_both_01 u p v = (_, refl)
order_in row_17_both_02 u p v = (_, refl)
order_in row_41_0000 u p v = (_, refl)
order_in row_41_0010 u p v = (_, refl)
order_in row_41_0020 u p v = (_, refl)

record Asked (W : Wrapping) (t : ℕ) (r : Request) : Type 0 where
  o : Order
  is_order : reads W (W.wraps t (body_of_request r)) ≡ Accepted o
  verdict : reading_verdict (Accepted o) ≡ asked_by r

as_asked : {W : Wrapping} → Lawful W → (t : ℕ) (r : Request) → Fits r → Asked W t r
as_asked {W} law t r fits =
    let x = order_in r.row r.unit r.offset r.value in
    let is_order = sym (reading_back (reads W (W.wraps t (body_of_request r)))) ∙ ap reading (as_sent law t r fits) ∙ x.1 in
    record { o = x.0; is_order = is_order; verdict = sym (ap reading_verdict is_order) ∙ as_sent law t r fits }

-- what is replied to a boiler frame of type 4 to 7
by_type : (o : Order) (v t : ℕ) → 4 ≤ t → t < 8 → reply_to (replies o v) t ≡ body_of (answer_of o (Answer t v))
by_type o v zero lo hi = absurd (omega arith)
by_type o v (suc zero) lo hi = absurd (omega arith)
by_type o v (suc (suc zero)) lo hi = absurd (omega arith)
by_type o v (suc (suc (suc zero))) lo hi = absurd (omega arith)
by_type o v (suc (suc (suc (suc zero)))) lo hi = refl
by_type o v (suc (suc (suc (suc (suc zero))))) lo hi = refl
by_type o v (suc (suc (suc (suc (suc (suc zero)))))) lo hi = refl
by_type o v (suc (suc (suc (suc (suc (suc (suc zero))))))) lo hi = refl
by_type o v (suc (suc (suc (suc (suc (suc (suc (suc t)))))))) lo hi = absurd (omega arith)

-- some order for line k
abbrev on : ℕ → Asking
on k = record {
  order = record { line = k; question = record { t = ReadData; id = 0; value = 0; alone = false }; function = 0; offset = 0; form = form.Value };
  transaction = 0;
}

module _ {W : Wrapping} (law : Lawful W) (h : Inputs) (bytewise : Bytewise h) where
  abbrev s : Gifts
  s = given W h

  abbrev H : View Asking
  H = box_view W h s

  -- an order under way is a request that waits, and the other way round
  record Under (n : ℕ) (u : UnderWay H n) : Type 0 where
    waits : RequestWaits W h s n
    own : waits.t ≡ u.w.transaction
    verdict : reading_verdict (Accepted u.w.order) ≡ asked_by waits.r

  under : (n : ℕ) (u : UnderWay H n) → Under n u
  under n u =
      let a = u.accepted.asked in
      let sent = order_sent law a.bytes u.w.order (bytewise u.i a.bytes a.brings.room a.brings.is) a.order in
      record {
        waits = record {
          r = sent.q;
          t = W.transaction a.bytes;
          i = u.i;
          before = u.before;
          fits = sent.fits;
          came = subst (λ (l : List ℕ). Brings l (h u.i)) sent.bytes a.brings;
          taken = u.accepted.taken;
          waiting = λ m bytes wait lo hi t. u.waiting m lo hi (bytes, wait, t);
        };
        own = a.own;
        verdict = sent.question;
      }

  -- the order that a request asks, with the transaction that is read off its message
  abbrev asking : (t : ℕ) (r : Request) → Fits r → Asking
  asking t r fits = record { order = (as_asked law t r fits).o; transaction = W.transaction (W.wraps t (body_of_request r)) }

  asks : (t : ℕ) (r : Request) (fits : Fits r) {x : Input} → Brings (W.wraps t (body_of_request r)) x → AsksFor W (asking t r fits) x
  asks t r fits came = record { bytes = W.wraps t (body_of_request r); brings = came; order = (as_asked law t r fits).is_order; own = refl }

  way : (n : ℕ) → RequestWaits W h s n → UnderWay H n
  way n w =
      record {
        i = w.i;
        w = asking w.t w.r w.fits;
        before = w.before;
        accepted = record { asked = asks w.t w.r w.fits w.came; taken = w.taken };
        waiting = λ m lo hi e. w.waiting m e.0 e.1 lo hi e.2;
      }

  asked : (j k : ℕ) (f : Frame) → Four k → (s j).out k ≡ sent Modbus f → Speaks W h s j k f
  asked j k f mine out =
      let a = (demand3 law h).asked (on k) j f (record { unit = mine; out = out }) in
      let u = under j a.order in
      let r = u.waits.r in
      record {
        request = u.waits;
        unit = sym (numbers r u.waits.fits a.order.w u.verdict).line ∙ sym a.here;
        word = word_of_lem r u.waits.fits a.order.w u.verdict s j f a.own;
      }

  module _ (k t : ℕ) (r : Request) (fits : Fits r) where
    abbrev x : Asking
    x = asking t r fits

    verdict : reading_verdict (Accepted x.order) ≡ asked_by r
    verdict = (as_asked law t r fits).verdict

    -- its replies at once, byte by byte
    bytes : (part : ReplyBodies → List ℕ) → RepliesAtOnce (s k) (W.wraps x.transaction (part (replies x.order 0))) →
        RepliesAtOnce (s k) (W.wraps t (part (replies_to r 0)))
    bytes part rep =
        subst (λ (b : List ℕ). RepliesAtOnce (s k) b) (law.echoes t (body_of_request r) (part (replies_to r 0)))
        (subst (λ (b : ReplyBodies). RepliesAtOnce (s k) (W.wraps x.transaction (part b))) (as_replied r x.order 0 verdict) rep)

    told : OrderTold H k x → RequestTold W h s k t r
    unfolding writes
    told (promise.taken e has none) = taken e (λ n. has (lacks r fits x verdict s k n)) (λ w. none (way k w))
    told (promise.lacking rep l) = lacking (bytes (λ (b : ReplyBodies). b.lacking) rep) (no_status_lem r fits x verdict s k l)
    told (promise.busy rep has u) = busy (bytes (λ (b : ReplyBodies). b.busy) rep) (λ n. has (lacks r fits x verdict s k n)) (under k u).waits

  -- an outcome's reply, byte by byte
  module _ (k i : ℕ) (o : Asking) (lt : i < k) (acc : Accepts H i o) (v : Served 1950 H i o k) where
    abbrev now : UnderWay H k
    now = record { i = i; w = o; before = lt; accepted = acc; waiting = v.only }

    u : Under k now
    u = under k now

    written : (b : Frame) → matches_of v.q.word b.word ≡ true →
        body_of (answer_of o.order (Answer (type_of b.word) (value_of b.word))) ≡ reply_to (replies_to u.waits.r (value_of b.word)) (type_of b.word)
    unfolding type_of
    written b m =
        sym (by_type o.order (value_of b.word) (type_of b.word) (match_type v.q.word b.word m) (omega arith))
        ∙ ap (λ (x : ReplyBodies). reply_to x (type_of b.word)) (as_replied u.waits.r o.order (value_of b.word) u.verdict)

    -- the reply y to the request that waits, with its own transaction
    given_to : (n : ℕ) {y z : List ℕ} → n ≡ past h i (suc k) → y ≡ z → Gives (s k) (W.wraps o.transaction y) n →
        Gives (s k) (W.wraps u.waits.t z) (past h i (suc k))
    given_to n {y} {z} is same g =
        subst (λ (w : ℕ). Gives (s k) (W.wraps u.waits.t z) w) is
        (subst (λ (t : ℕ). Gives (s k) (W.wraps t z) n) (sym u.own) (subst (λ (l : List ℕ). Gives (s k) (W.wraps o.transaction l) n) same g))

    ends : (n : ℕ) → n ≡ past h i (suc k) → Ending H o v.j v.q k n → Ended W h s k
    unfolding writes u under
    ends n is (promise.answered b an g) =
        answered u.waits b
        (subst (λ (l : ℕ). Boils l b (h k)) (numbers u.waits.r u.waits.fits o u.verdict).line an.frame)
        (given_to n is (written b an.matches) g)
    ends n is (promise.silent t e g) =
        silent u.waits t
        (given_to n is (ap (λ (x : ReplyBodies). x.none) (as_replied u.waits.r o.order 0 u.verdict)) g)

  ended : (k bytes wait : ℕ) → (s k).told ≡ outcome bytes wait → Ended W h s k
  ended k bytes wait e =
      let d = (demand3 law h).earned k (bytes, wait, e) in
      ends k d.0 d.1 d.2 d.3 d.4 (past h d.0 (suc k)) refl d.4.ending

  pub spoken : Spoken W h s
  spoken = record {
    asked = asked;
    told = λ k t r fits came. told k t r fits ((demand3 law h).ready k (asking t r fits) (asks t r fits came));
    ended = ended;
  }
