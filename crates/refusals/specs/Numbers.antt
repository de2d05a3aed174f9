-- The numbers of 01's table 'Numbered answers', and those of 02: 16 (Ask 1), 17 and 18 (Ask 4), 19 (Ask 6).
-- Assumes nothing: these are definitions.
use Rattle.std.specs.Prelude.{ℕ}
use Rattle.refusals.specs.declared.Refusal.{Refusal}
use Rattle.refusals.specs.declared.Refusal.TheVariants.{EarlyEdge, NoEdge, NoStopBit, NoLevel, OddParity, WrongType, OutOfTime, NoMatch, NoSuchLine, NoRawNumber, WrongLength, WrongChecksum, NoSuchUnit, NoSuchFunction, ShortRoom, SpareBits, WrongProtocol, WrongCount, BrokenLog}

abbrev pub number_of : Refusal → ℕ
-- "samples": an edge too early; no edge in time; the stop bit; a sample that is neither 0 nor 1
number_of EarlyEdge = 1
number_of NoEdge = 2
number_of NoStopBit = 3
number_of NoLevel = 4
-- "parity odd"
number_of OddParity = 5
-- "thermostat type not 0-2, boiler type not 4-7, type above 7 when a word is written"
number_of WrongType = 6
-- "boiler frame outside a talk's ages 84-874"
number_of OutOfTime = 7
-- "boiler frame that doesn't match"
number_of NoMatch = 8
-- "line not 1-4"
number_of NoSuchLine = 9
-- "a real that no raw number gives"
number_of NoRawNumber = 10
-- "Modbus length, checksum, unit, function 80 or more"
number_of WrongLength = 11
number_of WrongChecksum = 12
number_of NoSuchUnit = 13
number_of NoSuchFunction = 14
-- "lent room below 16 bytes (reply) or 680 (samples)"
number_of ShortRoom = 15
-- "spare bits not zero"
number_of SpareBits = 16
-- "17, protocol not 0; 18, length not what was handed over"
number_of WrongProtocol = 17
number_of WrongCount = 18
-- "a log that breaks this layout or has bytes over"
number_of BrokenLog = 19
