-- A refusal is known by its number: no two have the same, and the numbers are 1 to 19.
-- Assumes nothing.
use Prim.Native.Nat.{ℕ, ◌-◌, ◌≤◌}
use native.Mathlib.Omega.{arith}
use mathlib.Core.Path.{◌≡◌, refl, sym, ap, ◌∙◌}
use mathlib.Core.List.{List, [], ◌∷◌}
use lib.ListN.{get_or}
use Rattle.refusals.specs.declared.Refusal.{Refusal}
use Rattle.refusals.specs.declared.Refusal.TheVariants.{EarlyEdge, NoEdge, NoStopBit, NoLevel, OddParity, WrongType, OutOfTime, NoMatch, NoSuchLine, NoRawNumber, WrongLength, WrongChecksum, NoSuchUnit, NoSuchFunction, ShortRoom, SpareBits, WrongProtocol, WrongCount, BrokenLog}
use Rattle.refusals.specs.Numbers.{number_of}

-- all of them, in the order of their numbers
abbrev pub all_refusals : List Refusal
all_refusals =
    EarlyEdge ∷ NoEdge ∷ NoStopBit ∷ NoLevel ∷ OddParity ∷ WrongType ∷ OutOfTime ∷ NoMatch ∷ NoSuchLine ∷ NoRawNumber
    ∷ WrongLength ∷ WrongChecksum ∷ NoSuchUnit ∷ NoSuchFunction ∷ ShortRoom ∷ SpareBits ∷ WrongProtocol ∷ WrongCount ∷ BrokenLog ∷ []

abbrev pub named : ℕ → Refusal
named n = get_or all_refusals (n - 1) BrokenLog

pub named_back : (r : Refusal) → named (number_of r) ≡ r
named_back EarlyEdge = refl
named_back NoEdge = refl
named_back NoStopBit = refl
named_back NoLevel = refl
named_back OddParity = refl
named_back WrongType = refl
named_back OutOfTime = refl
named_back NoMatch = refl
named_back NoSuchLine = refl
named_back NoRawNumber = refl
named_back WrongLength = refl
named_back WrongChecksum = refl
named_back NoSuchUnit = refl
named_back NoSuchFunction = refl
named_back ShortRoom = refl
named_back SpareBits = refl
named_back WrongProtocol = refl
named_back WrongCount = refl
named_back BrokenLog = refl

pub one_refusal : (r s : Refusal) → number_of r ≡ number_of s → r ≡ s
one_refusal r s e = sym (named_back r) ∙ ap named e ∙ named_back s

pub from_1 : (r : Refusal) → 1 ≤ number_of r
from_1 EarlyEdge = omega arith
from_1 NoEdge = omega arith
from_1 NoStopBit = omega arith
from_1 NoLevel = omega arith
from_1 OddParity = omega arith
from_1 WrongType = omega arith
from_1 OutOfTime = omega arith
from_1 NoMatch = omega arith
from_1 NoSuchLine = omega arith
from_1 NoRawNumber = omega arith
from_1 WrongLength = omega arith
from_1 WrongChecksum = omega arith
from_1 NoSuchUnit = omega arith
from_1 NoSuchFunction = omega arith
from_1 ShortRoom = omega arith
from_1 SpareBits = omega arith
from_1 WrongProtocol = omega arith
from_1 WrongCount = omega arith
from_1 BrokenLog = omega arith

pub to_19 : (r : Refusal) → number_of r ≤ 19
to_19 EarlyEdge = omega arith
to_19 NoEdge = omega arith
to_19 NoStopBit = omega arith
to_19 NoLevel = omega arith
to_19 OddParity = omega arith
to_19 WrongType = omega arith
to_19 OutOfTime = omega arith
to_19 NoMatch = omega arith
to_19 NoSuchLine = omega arith
to_19 NoRawNumber = omega arith
to_19 WrongLength = omega arith
to_19 WrongChecksum = omega arith
to_19 NoSuchUnit = omega arith
to_19 NoSuchFunction = omega arith
to_19 ShortRoom = omega arith
to_19 SpareBits = omega arith
to_19 WrongProtocol = omega arith
to_19 WrongCount = omega arith
to_19 BrokenLog = omega arith
