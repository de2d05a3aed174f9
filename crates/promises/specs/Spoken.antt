-- What the box puts on its lines and replies to a request, in the numbers of 01's table alone (modbus, Table and Replied), in a wrapping W: bytes in, words
-- and bytes out, where the inputs h come and s is given to each. No order, no question and no reading of a message is named here.
-- Nothing here knows how the box works. Assumes nothing: these are definitions.
use Rattle.std.specs.Prelude.{ℕ, suc, ◌*◌, ◌/◌, ◌%◌, ◌<◌, ◌≡◌, ◌⊎◌, Bool, true, false, cond, List, eqb}
use Rattle.word.specs.declared.Frame.{Frame}
use Rattle.word.specs.Frame.{type_of, value_of}
use Rattle.word.specs.Fields.{BuiltFrom}
use Rattle.turns.specs.declared.Talker.TheVariants.{Modbus}
use Rattle.turns.specs.Events.{Notes, sent}
use Rattle.turns.specs.Exchange.{Shows, LastShown}
use Rattle.modbus.specs.Table.{
  TableRow,
  row_03,
  row_04,
  row_06,
  row_10,
  row_17_read,
  row_17_write_00,
  row_17_write_02,
  row_17_both_00,
  row_17_both_01,
  row_17_both_02,
  row_41_0000,
  row_41_0010,
  row_41_0020,
  Request,
  Fits,
  body_of_request,
}
use Rattle.modbus.specs.Replied.{ReplyBodies, replies_to}
use Rattle.modbus.specs.Becomes.{Bytes}
use Rattle.modbus.specs.Wrapping.{Wrapping}
use Rattle.promises.specs.Notes.{accepted, outcome}
use Rattle.promises.specs.Inputs.{message, Inputs, Gifts, Four, Ticks, Boils, Brings, past}
use Rattle.promises.specs.Demand3.{RepliesAtOnce, Gives}

-- "Question on the line": its type, 0 READ-DATA, 1 WRITE-DATA, 2 INVALID-DATA; and its value, which the three rows of a read alone don't have
abbrev pub type_in : TableRow → ℕ
type_in row_03 = 0
type_in row_04 = 0
type_in row_06 = 1
type_in row_10 = 1
type_in row_17_read = 0
type_in row_17_write_00 = 1
type_in row_17_write_02 = 2
type_in row_17_both_00 = 0
type_in row_17_both_01 = 1
type_in row_17_both_02 = 2
type_in row_41_0000 = 0
type_in row_41_0010 = 1
type_in row_41_0020 = 2

abbrev pub value_in : TableRow → ℕ → ℕ
value_in row_03 v = 0
value_in row_04 v = 0
value_in row_06 v = v
value_in row_10 v = v
value_in row_17_read v = 0
value_in row_17_write_00 v = v
value_in row_17_write_02 v = v
value_in row_17_both_00 v = v
value_in row_17_both_01 v = v
value_in row_17_both_02 v = v
value_in row_41_0000 v = v
value_in row_41_0010 v = v
value_in row_41_0020 v = v

-- "The id is the offset's low byte."
abbrev pub id_in : Request → ℕ
id_in r = r.offset % 256

-- "For these ids [0 and 70], codes 03 and 04 and code 17 with a read alone" (02, Ask 2)
abbrev pub alone_in : TableRow → Bool
alone_in row_03 = true
alone_in row_04 = true
alone_in row_06 = false
alone_in row_10 = false
alone_in row_17_read = true
alone_in row_17_write_00 = false
alone_in row_17_write_02 = false
alone_in row_17_both_00 = false
alone_in row_17_both_01 = false
alone_in row_17_both_02 = false
alone_in row_41_0000 = false
alone_in row_41_0010 = false
alone_in row_41_0020 = false

pub record AsksStatus (r : Request) : Type 0 where
  pub alone : alone_in r.row ≡ true
  pub named : (id_in r ≡ 0) ⊎ (id_in r ≡ 70)

-- what goes out on the line of a unit
abbrev pub outs_on : Gifts → ℕ → Notes
outs_on s k n = (s n).out k

-- w is the word of the request r, when it goes out at input j: its own type, id and value; or READ-DATA with "the high byte .. of the last READ-DATA with
-- this id that went out for the line's thermostat since fresh, .. low byte 0"
pub data RequestWord (s : Gifts) (j : ℕ) (r : Request) (w : ℕ) : Type 0 where
  plain : (AsksStatus r → ⊥) → BuiltFrom (type_in r.row) (id_in r) (value_in r.row r.value) w → RequestWord s j r w
  status : AsksStatus r → (f : Frame) → LastShown (outs_on s r.unit) (id_in r) j f → BuiltFrom 0 (id_in r) (value_of f.word / 256 * 256) w → RequestWord s j r w

-- "no such frame went out" before input k
pub record NoStatus (s : Gifts) (k : ℕ) (r : Request) : Type 0 where
  pub asks : AsksStatus r
  pub never : (m : ℕ) (f : Frame) → m < k → Shows (outs_on s r.unit) (id_in r) m f → ⊥

-- the request r came as input i with the transaction t, was accepted, and has no outcome before input n. (In the serial form every t will do: its bytes have
-- none.)
pub record RequestWaits (W : Wrapping) (h : Inputs) (s : Gifts) (n : ℕ) : Type 0 where
  pub r : Request
  pub t : ℕ
  pub i : ℕ
  pub before : i < n
  pub fits : Fits r
  pub came : Brings (W.wraps t (body_of_request r)) (h i)
  pub taken : (s i).told ≡ accepted
  pub waiting : (m bytes wait : ℕ) → i < m → m < n → (s m).told ≡ outcome bytes wait → ⊥

-- what the message of r, with the transaction t, is told as input k: it is accepted; or "exception 04 at once where no such frame went out, .. before
-- 06"; or 06. The transaction comes back
pub data RequestTold (W : Wrapping) (h : Inputs) (s : Gifts) (k t : ℕ) (r : Request) : Type 0 where
  taken : (s k).told ≡ accepted → (NoStatus s k r → ⊥) → (RequestWaits W h s k → ⊥) → RequestTold W h s k t r
  lacking : RepliesAtOnce (s k) (W.wraps t (replies_to r 0).lacking) → NoStatus s k r → RequestTold W h s k t r
  busy : RepliesAtOnce (s k) (W.wraps t (replies_to r 0).busy) → (NoStatus s k r → ⊥) → RequestWaits W h s k → RequestTold W h s k t r

-- the reply to a boiler frame of type t, 4 to 7, of those that the table prints
abbrev pub reply_to : ReplyBodies → ℕ → List ℕ
reply_to b t = cond (eqb t 4) b.four (cond (eqb t 5) b.five (cond (eqb t 6) b.six b.seven))

-- the outcome that is told to input k is that of the request that waits: the table's reply to a frame of its boiler's, or to no answer, in the wrapping and
-- with that request's own transaction; and the ticks since it came
pub data Ended (W : Wrapping) (h : Inputs) (s : Gifts) (k : ℕ) : Type 0 where
  answered : (w : RequestWaits W h s k) (b : Frame) → Boils w.r.unit b (h k) →
      Gives (s k) (W.wraps w.t (reply_to (replies_to w.r (value_of b.word)) (type_of b.word))) (past h w.i (suc k)) → Ended W h s k
  silent : (w : RequestWaits W h s k) → Ticks (h k) → Gives (s k) (W.wraps w.t (replies_to w.r 0).none) (past h w.i (suc k)) → Ended W h s k

-- each message is of bytes
abbrev pub Bytewise : Inputs → Type 0
Bytewise h = (n : ℕ) (b : List ℕ) (room : ℕ) → h n ≡ message b room → Bytes b

-- what goes out for Modbus on line k at input j
pub record Speaks (W : Wrapping) (h : Inputs) (s : Gifts) (j k : ℕ) (f : Frame) : Type 0 where
  pub request : RequestWaits W h s j
  pub unit : request.r.unit ≡ k
  pub word : RequestWord s j request.r f.word

pub record Spoken (W : Wrapping) (h : Inputs) (s : Gifts) : Type 0 where
  -- whatever goes out for Modbus, on whichever line, is the word of a request for that unit that was accepted and has no outcome
  pub asked : (j k : ℕ) (f : Frame) → Four k → (s j).out k ≡ sent Modbus f → Speaks W h s j k f
  -- what each request is told, and what each outcome writes
  pub told : (k t : ℕ) (r : Request) → Fits r → Brings (W.wraps t (body_of_request r)) (h k) → RequestTold W h s k t r
  pub ended : (k bytes wait : ℕ) → (s k).told ≡ outcome bytes wait → Ended W h s k
