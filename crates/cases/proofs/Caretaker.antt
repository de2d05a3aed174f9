-- The caretaker's poll in numbers, computed from the definitions: what a line knows after a frame of the thermostat's went out, and from that what an
-- order is told and what goes out for it.
-- Assumes nothing.
use Rattle.std.specs.Prelude.{None}
use Prim.Native.Nat.{ℕ, ◌*◌, ◌%◌, ◌≤◌}
use mathlib.Core.Path.{◌≡◌, refl, ap, ◌∙◌}
use mathlib.Core.Bool.{true}
use lib.Dec.{eqb, ltb, lit≤}
use lib.Count.{ones_in}
use borrow.Author.Tests.{ltb-true}
use Rattle.word.specs.Frame.{even_of, spare_of, type_of, id_of, value_of, built_of}
use Rattle.word.specs.Fields.{GoodWord}
use Rattle.word.proofs.Worked.{counted, builds, built_is}
use Rattle.turns.specs.Line.{Line, line}
use Rattle.turns.specs.declared.Talker.{Talker}
use Rattle.turns.specs.declared.Talker.TheVariants.{Thermostat, Modbus}
use Rattle.turns.specs.declared.Turn.TheVariants.{Rest}
use Rattle.turns.specs.declared.Status.{Status}
use Rattle.turns.specs.Status.{no_status, exchanges_of, keeps_of, shows_of, flags_for, lacks_of, status_word, word_by}
use Rattle.turns.specs.Turns.{fresh_line, aged, turn_older, line_older, word_for, waiting_of, sends_of, after, start_of, rests_of}
use Rattle.turns.specs.Turns.{ended_of, silence_of, talks_of, tick_of, thermostat_of, under_way, order_of}
use Rattle.turns.specs.Events.{Note, sent, note_of}
use Rattle.turns.specs.Cases.{ticks_later, plain}
use Rattle.turns.proofs.Tried.{kept}
use Rattle.cases.specs.Caretaker.{frame, poll_0, poll_70, status_03, status_01, status_70, unanswered, told_at_once}
use Rattle.cases.specs.Caretaker.{after_100, between, Caretaker}

-- ---- worked words, by their digits

good : (w : ℕ) → ltb w 0x1_0000_0000 ≡ true → eqb (ones_in 32 w % 2) 0 ≡ true → spare_of w ≡ 0 → GoodWord w
unfolding even_of
good w low even clear = record { even = rw (← counted 32 w (ltb-true w 0x1_0000_0000 low)) even; clear = clear }

-- READ-DATA with an id and a high byte goes out as this word
goes : (i b w : ℕ) → builds 0 i (b * 256) w ≡ true → sent Modbus (frame (status_word i b)) ≡ sent Modbus (frame w)
unfolding status_word built_of
goes i b w e = let built = built_is 0 i (b * 256) w e in ap (λ (x : ℕ). sent Modbus (frame x)) cc

-- ---- a line at rest 0, with the last talker and the status

rests : Talker → Status → Line
rests x m = line (Rest 0) None None x m

-- a frame of the thermostat's goes out, and nobody answers it: it is remembered
out : (x : Talker) (m : Status) (w : ℕ) → GoodWord w → type_of w ≤ 2 → unanswered (rests x m) (frame w) ≡ rests Thermostat (shows_of m (frame w))
unfolding unanswered rests ticks_later tick_of line_older turn_older aged rests_of start_of waiting_of sends_of after talks_of silence_of ended_of
out Thermostat m w g ty = ap (ticks_later 975) (kept (rests Thermostat m) (frame w) g ty)
out Modbus m w g ty = ap (ticks_later 975) (kept (rests Modbus m) (frame w) g ty)

-- what a line knows once status-03 went out, and status-70 after it
known_03 : Status
known_03 = shows_of no_status status_03

known_both : Status
known_both = shows_of known_03 status_70

out_03 : unanswered fresh_line status_03 ≡ rests Thermostat known_03
unfolding rests known_03 ones_in spare_of type_of
out_03 = out Modbus no_status 0x0000_03AA (good 0x0000_03AA refl refl refl) (lit≤ tt)

out_both : unanswered (unanswered fresh_line status_03) status_70 ≡ rests Thermostat known_both
unfolding known_both ones_in spare_of type_of
out_both = ap (λ (l : Line). unanswered l status_70) out_03 ∙ out Thermostat known_03 0x0046_0755 (good 0x0046_0755 refl refl refl) (lit≤ tt)

pub caretaker : Caretaker
unfolding rests known_03 known_both after_100 between ticks_later order_of under_way lacks_of exchanges_of flags_for shows_of keeps_of ones_in spare_of type_of id_of
    value_of tick_of line_older turn_older aged rests_of start_of waiting_of word_for word_by sends_of after talks_of silence_of ended_of
caretaker =
    let polled : Line → Note = λ l. told_at_once l poll_0 in
    record {
      never_out = refl;
      only_held = ap polled (kept fresh_line status_03 (good 0x0000_03AA refl refl refl) (lit≤ tt));
      write_data = ap polled (out Modbus no_status 0x9000_0500 (good 0x9000_0500 refl refl refl) (lit≤ tt));
      invalid_data = ap polled (out Modbus no_status 0xA000_0500 (good 0xA000_0500 refl refl refl) (lit≤ tt));
      other_id = ap (λ (l : Line). told_at_once l poll_70) out_03;
      high_byte = ap (λ (l : Line). after_100 l poll_0) out_03 ∙ goes 0 0x03 0x0000_0300 refl;
      own_0 = ap (λ (l : Line). after_100 l poll_0) out_both ∙ goes 0 0x03 0x0000_0300 refl;
      own_70 = ap (λ (l : Line). after_100 l poll_70) out_both ∙ goes 70 0x07 0x0046_0700 refl;
      newer =
          ap (λ (l : Line). note_of (tick_of (ticks_later 1074 (order_of l poll_0).line)).said)
          (ap (λ (l : Line). (thermostat_of (ticks_later 975 (order_of l (plain 0)).line) status_01).line) out_03
          ∙ kept (rests Modbus known_03) status_01 (good 0x8000_01FF refl refl refl) (lit≤ tt))
          ∙ goes 0 0x01 0x8000_0100 refl;
    }
