-- What is written for a message is its reply's body in the message's own form (specs/Departs), for every message of bytes.
-- Assumes nothing.
use Prim.Native.Nat.{ℕ, ◌≤◌}
use mathlib.Core.Path.{◌≡◌, refl, sym, ◌∙◌}
use mathlib.Core.List.{List}
use native.Mathlib.Omega.{arith}
use lib.ListN.{length, get_or}
use Rattle.modbus.specs.declared.MessageForm.{MessageForm}
use Rattle.modbus.specs.declared.MessageForm.TheVariants.{Serial, Tcp}
use Rattle.modbus.specs.declared.Reply.{Reply}
use Rattle.modbus.specs.Becomes.{Bytes}
use Rattle.modbus.specs.Wire.{body_of}
use Rattle.modbus.specs.Wrapping.{wrapping_of, writes}
use Rattle.modbus.specs.Departs.{in_form}
use Rattle.modbus.proofs.Replies.{short_body}
use Rattle.modbus.proofs.Arrives.{head, two_bytes}
use Rattle.modbus.proofs.Wrapping.{lawful}

-- a body in its form, with the transaction of the message s
pub departs : (f : MessageForm) (s b : List ℕ) → Bytes s → length b ≤ 254 → (wrapping_of f).wraps ((wrapping_of f).transaction s) b ≡ in_form f s b
departs Serial s b h n = refl
departs Tcp s b h n = head _ b (get_or s 0 0) (get_or s 1 0) (h 1) (two_bytes s h) n

-- and the bytes of a reply are its body's
pub written : (f : MessageForm) (s : List ℕ) (r : Reply) → Bytes s → writes (wrapping_of f) ((wrapping_of f).transaction s) r ≡ in_form f s (body_of r)
unfolding writes
written f s r h = departs f s (body_of r) h (omega (arith, short_body r))

-- what is wrapped with the transaction of a message brings its bytes back
pub brings_back : (f : MessageForm) (t : ℕ) (b c : List ℕ) → Bytes ((wrapping_of f).wraps t b) → length c ≤ 254 →
    (wrapping_of f).wraps t c ≡ in_form f ((wrapping_of f).wraps t b) c
brings_back f t b c h n = sym ((lawful f).echoes t b c) ∙ departs f ((wrapping_of f).wraps t b) c h n
