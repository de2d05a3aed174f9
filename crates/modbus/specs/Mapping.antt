-- The mapping (01, 'Modbus'): the table's rows, and 01's checks in 01's order, over a message's body (see Shape), in any wrapping.
-- Assumes nothing: these are definitions.
use Rattle.std.specs.Prelude.{ℕ, ◌/◌, ◌%◌, List, [], ◌∷◌, Bool, true, false, cond, not, ◌&&◌, eqb, leb, ltb, Option, Some, None, find, map}
use Rattle.std.specs.List.{list_any}
use Rattle.refusals.specs.declared.Refusal.{Refusal}
use Rattle.refusals.specs.declared.Refusal.TheVariants.{NoSuchUnit, NoSuchFunction}
use Rattle.word.specs.Checks.{Check, must, judged}
use Rattle.word.specs.Frame.{read_data, write_data, invalid_data, bare, evened}
use Rattle.modbus.specs.Shape.{unit_of, function_of, formed_of, request_fields}
use Rattle.modbus.specs.declared.Form.{Form}
use Rattle.modbus.specs.declared.Form.TheVariants as form
use Rattle.modbus.specs.declared.Order.{Order}
use Rattle.modbus.specs.declared.Question.{Question}
use Rattle.modbus.specs.declared.QuestionType.{QuestionType}
use Rattle.modbus.specs.declared.QuestionType.TheVariants.{ReadData, WriteData, InvalidData}
use Rattle.modbus.specs.declared.Reading.{Reading}
use Rattle.modbus.specs.declared.Reading.TheVariants.{Silent, AtOnce, Accepted}
use Rattle.modbus.specs.declared.Reply.TheVariants.{Exception, Value}
use Rattle.modbus.specs.declared.shape.Fields.{Fields}
use Rattle.modbus.specs.declared.rows.Asks.{Asks}
use Rattle.modbus.specs.declared.rows.Asks.TheVariants.{Alone, Always, ByMessage}
use Rattle.modbus.specs.declared.rows.Page.{Page}
use Rattle.modbus.specs.declared.rows.Page.TheVariants.{Any, At}
use Rattle.modbus.specs.declared.rows.Row.{Row}

-- ---- the rows

abbrev pub row : ℕ → ℕ → ℕ → Page → Asks → Form → Row
row f r w p q m = record { function = f; reads = r; writes = w; page = p; asks = q; form = m }

-- function, registers read and written, offset page, question on the line, normal reply
abbrev pub mapping_rows : List Row
mapping_rows =
    row 0x03 1 0 Any Alone form.Value
    ∷ row 0x04 1 0 Any Alone form.Value
    ∷ row 0x06 0 1 Any (Always WriteData) form.OffsetValue
    ∷ row 0x10 0 1 Any (Always WriteData) form.OffsetOne
    ∷ row 0x17 1 0 Any Alone form.Value
    ∷ row 0x17 0 1 (At 0x00) (Always WriteData) form.Zero
    ∷ row 0x17 0 1 (At 0x02) (Always InvalidData) form.Never
    ∷ row 0x17 1 1 (At 0x00) (Always ReadData) form.Value
    ∷ row 0x17 1 1 (At 0x01) (Always WriteData) form.Value
    ∷ row 0x17 1 1 (At 0x02) (Always InvalidData) form.ValueOfInvalid
    ∷ row 0x41 0 1 (At 0x00) ByMessage form.Whole
    ∷ []

-- "with one, only that side's offset is looked at"; with both they are equal: a row that reads has the read's, one that only writes the write's
abbrev pub offset_by : Row → Fields → ℕ
offset_by r a = cond (eqb r.reads 0) a.to a.from

abbrev pub on_of : Page → ℕ → Bool
on_of Any high = true
on_of (At h) high = eqb h high

unfoldable pub fits_of : Row → Fields → Bool
fits_of r a = eqb r.function a.function && (eqb r.reads a.reads && (eqb r.writes a.writes && on_of r.page (offset_by r a / 256)))

abbrev pub first_of : List Row → Fields → Option Row
first_of rs a = find (λ r. fits_of r a) rs

-- ---- the functions

abbrev pub among : ℕ → List ℕ → Bool
among f ns = list_any (eqb f) ns

abbrev pub functions_of : List Row → List ℕ
functions_of rs = map (λ r. r.function) rs

-- "Unit 5 serves 03, 04, 06, 10"
abbrev pub own_functions : List ℕ
own_functions = 0x03 ∷ 0x04 ∷ 0x06 ∷ 0x10 ∷ []

-- "function served": those of the table
unfoldable pub served_of : ℕ → ℕ → Bool
served_of u f = cond (eqb u 5) (among f own_functions) (among f (functions_of mapping_rows))

-- ---- the question

-- "Types: 0 READ-DATA, 1 WRITE-DATA, 2 INVALID-DATA"
abbrev pub type_number : QuestionType → ℕ
type_number ReadData = read_data
type_number WriteData = write_data
type_number InvalidData = invalid_data

-- "type 0, 1 or 2 from message 0000, 0010, 0020"; "message 0030 is 03, .. and so is every message not named in the row"
abbrev pub by_message : ℕ → Option QuestionType
by_message m =
    cond (eqb m 0x0000) (Some ReadData)
    (cond (eqb m 0x0010) (Some WriteData)
    (cond (eqb m 0x0020) (Some InvalidData)
    None))

abbrev pub type_from : Asks → ℕ → Option QuestionType
type_from Alone m = Some ReadData
type_from (Always t) m = Some t
type_from ByMessage m = by_message m

-- "codes 03 and 04 and code 17 with a read alone" (02, Ask 2): which rows ask this way stands in the table
abbrev pub alone_by : Asks → Bool
alone_by Alone = true
alone_by (Always t) = false
alone_by ByMessage = false

-- "The id is the offset's low byte. Units 1 to 4 are the lines of the same number"
abbrev pub as_order : ℕ → Fields → Row → QuestionType → Order
as_order u a r t =
    record {
      line = u;
      question = record { t = t; id = offset_by r a % 256; value = a.value; alone = alone_by r.asks };
      function = a.function;
      offset = offset_by r a;
      form = r.form;
    }

-- the question's word: its type, id and value, with even parity and spare bits 0. (What goes out for a status question is for its line to say.)
unfoldable pub word_of : Question → ℕ
word_of q = evened (bare (type_number q.t) q.id q.value)

-- ---- the checks

abbrev pub at_once : ℕ → ℕ → ℕ → Reading
at_once u f code = AtOnce (Exception u f code)

-- "type for 41 (03)": the last check of a request by itself
abbrev pub typed_as : ℕ → Fields → Row → Option QuestionType → Reading
typed_as u a r (Some t) = Accepted (as_order u a r t)
typed_as u a r None = at_once u a.function 0x03

unfoldable pub ask_of : ℕ → Fields → Row → Reading
ask_of u a r = typed_as u a r (type_from r.asks a.message)

abbrev pub found_as : ℕ → Fields → Option Row → Reading
found_as u a (Some r) = ask_of u a r
found_as u a None = at_once u a.function 0x02

-- "For 17 with both, the two offsets are equal (else 02)"
unfoldable pub unlike_of : Fields → Bool
unlike_of a = not (eqb a.reads 0) && (not (eqb a.writes 0) && not (eqb a.from a.to))

-- "offset (02)": "Offsets that the 17 rows don't name are 02. For 41 the offset's high byte is 0"
abbrev pub offset_checks : Fields → List (Check ℕ)
offset_checks a = must 0x02 (not (unlike_of a)) ∷ []

unfoldable pub mapped_of : ℕ → Fields → Reading
mapped_of u a = judged (offset_checks a) (at_once u a.function) (found_as u a (first_of mapping_rows a))

-- "register 0076 reads 0100 (version 1.0); writing it, and every other register, is 02"
abbrev pub own_checks : Fields → List (Check ℕ)
own_checks a = must 0x02 (eqb a.reads 1) ∷ must 0x02 (eqb a.from 0x0076) ∷ []

unfoldable pub own_of : Fields → Reading
own_of a = judged (own_checks a) (at_once 5 a.function) (AtOnce (Value 5 a.function 0x0100))

-- "unit 1 to 5; function below 80": 13 and 14, silent
abbrev pub silent_checks : List ℕ → List (Check Refusal)
silent_checks b = must NoSuchUnit (leb 1 (unit_of b)) ∷ must NoSuchUnit (leb (unit_of b) 5) ∷ must NoSuchFunction (ltb (function_of b) 0x80) ∷ []

-- "function served (else exception 01); exact length and byte count, then counts (03)"
abbrev pub form_checks : List ℕ → List (Check ℕ)
form_checks b = must 0x01 (served_of (unit_of b) (function_of b)) ∷ must 0x03 (formed_of (function_of b) b) ∷ []

-- a request of the right form: "Unit 5 serves .. at once and never makes an order"
abbrev pub body_said : List ℕ → Reading
body_said b = cond (eqb (unit_of b) 5) (own_of (request_fields (function_of b) b)) (mapped_of (unit_of b) (request_fields (function_of b) b))

abbrev pub form_read : List ℕ → Reading
form_read b = judged (form_checks b) (at_once (unit_of b) (function_of b)) (body_said b)

unfoldable pub body_read : List ℕ → Reading
body_read b = judged (silent_checks b) Silent (form_read b)
