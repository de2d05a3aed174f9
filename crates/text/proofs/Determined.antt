-- Nothing is left open by a contract of this crate: two results that it allows are equal.
-- Assumes nothing.
use Rattle.std.proofs.Common.{◌≡◌, sym, ◌∙◌}
use contract.Lifetimes.{Lfts}
use denote.Triple.Clauses.{AtExit}
use borrow.Fn.Kinds.{Dens, res_t, ended_of}
use Rattle.word.proofs.One.{One}
use Rattle.text.proofs.Text.empty.Reads as empty_reads
use Rattle.text.proofs.Text.empty.Kinds as empty_kinds
use Rattle.text.proofs.Text.push.Reads as push_reads
use Rattle.text.proofs.Text.push.Kinds as push_kinds
use Rattle.text.proofs.Text.put.Reads as put_reads
use Rattle.text.proofs.Text.put.Kinds as put_kinds
use Rattle.text.proofs.Text.decimal.Reads as decimal_reads
use Rattle.text.proofs.Text.decimal.Kinds as decimal_kinds
use Rattle.text.proofs.Text.hex.Reads as hex_reads
use Rattle.text.proofs.Text.hex.Kinds as hex_kinds
use Rattle.text.proofs.Text.as_bytes.Reads as as_bytes_reads
use Rattle.text.proofs.Text.as_bytes.Kinds as as_bytes_kinds

pub empty_one : One empty_kinds.ps empty_kinds.r empty_reads.Post
empty_one κs a u v x y p q = p ∙ sym q

pub push_one : One push_kinds.ps push_kinds.r push_reads.Post
push_one κs a u v x y p q = p ∙ sym q

pub put_one : One put_kinds.ps put_kinds.r put_reads.Post
put_one κs a u v x y p q = p ∙ sym q

pub decimal_one : One decimal_kinds.ps decimal_kinds.r decimal_reads.Post
decimal_one κs a u v x y p q = p ∙ sym q

pub hex_one : One hex_kinds.ps hex_kinds.r hex_reads.Post
hex_one κs a u v x y p q = p ∙ sym q

-- the bytes, wherever the slice lies
pub as_bytes_one : (κs : Lfts 1) (a : Dens κs as_bytes_kinds.ps) (u v : (res_t as_bytes_kinds.r κs).Denot)
    (x y : AtExit (ended_of 1 as_bytes_kinds.ps as_bytes_kinds.r) κs) →
    as_bytes_reads.Post κs a u x → as_bytes_reads.Post κs a v y → u.now ≡ v.now
as_bytes_one κs a u v x y p q = p ∙ sym q
