-- 02's own example, byte by byte.
-- Assumes nothing.
use mathlib.Core.Path.{◌≡◌, refl}
use mathlib.Core.List.{List, [], ◌∷◌}
use Prim.Native.Nat.{ℕ}
use Rattle.ids.specs.Ids.{kind_of, entry_of, rows_of, rows_in, rows}
use Rattle.places.specs.Bytes.{pair_at, word_at}
use lib.IntN.{pos}
use Rattle.logs.specs.Layout.{reading_at, readings_at, rising, among, in_order, log_of}
use Rattle.logs.specs.Report.{only, counts_signed, first_from, first_by, total, before, runs, longer, longest, report_of, answer_of}
use Rattle.std.specs.Prelude.{Ok}

pub example : List ℕ
example =
    1 ∷ 2 ∷
    0 ∷ 3 ∷
    0 ∷ 0 ∷ 0x03 ∷ 0xe8 ∷ 2 ∷ 25 ∷ 0x32 ∷ 0x80 ∷
    0 ∷ 0 ∷ 0x07 ∷ 0xd0 ∷ 2 ∷ 25 ∷ 0x32 ∷ 0x80 ∷
    0 ∷ 0 ∷ 0x0d ∷ 0xac ∷ 2 ∷ 25 ∷ 0x32 ∷ 0x64 ∷ []

pub tried : answer_of example 2 25 ≡ Ok (record { readings = 3; lowest = pos 12900; highest = pos 12928; sum = pos 38756; run = 2; ticks = 1000 })
unfolding example answer_of report_of longest longer runs before total first_by first_from counts_signed only log_of in_order among rising readings_at reading_at kind_of entry_of rows_of rows_in rows pair_at word_at
tried = refl
