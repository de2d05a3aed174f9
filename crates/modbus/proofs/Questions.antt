-- A question's word says its type, id and value; its type is 0 to 2, so it is always built.
-- Assumes nothing.
use Rattle.std.specs.Prelude.{Ok}
use mathlib.Core.Path.{◌≡◌}
use Prim.Native.Nat.{◌<◌}
use lib.Dec.{lit<}
use Rattle.word.specs.Frame.{built_of}
use Rattle.word.specs.Fields.{BuiltFrom}
use Rattle.word.proofs.Fields.{built_word, built_from}
use Rattle.modbus.specs.declared.Question.{Question}
use Rattle.modbus.specs.declared.QuestionType.{QuestionType}
use Rattle.modbus.specs.declared.QuestionType.TheVariants.{ReadData, WriteData, InvalidData}
use Rattle.modbus.specs.Mapping.{type_number, word_of}

small_type : (t : QuestionType) → type_number t < 8
small_type ReadData = lit< tt
small_type WriteData = lit< tt
small_type InvalidData = lit< tt

-- the word that is built is the question's
pub built : (q : Question) → built_of (type_number q.t) q.id q.value ≡ Ok (word_of q)
unfolding word_of
built q = built_word (type_number q.t) q.id q.value (small_type q.t)

-- the table's second column on the line: a question's word is built from its type, id and value
pub word_says : (q : Question) → q.id < 256 → q.value < 65536 → BuiltFrom (type_number q.t) q.id q.value (word_of q)
unfolding word_of
word_says q hi hv = built_from (type_number q.t) q.id q.value (small_type q.t) hi hv
