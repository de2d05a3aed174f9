-- Nothing is left open by a contract of this crate: two results that it allows are equal.
-- Assumes nothing.
use mathlib.Core.Path.{sym, ◌∙◌}
use Rattle.word.proofs.One.{One}
use Rattle.messages.proofs.request.Reads as request_reads
use Rattle.messages.proofs.request.Kinds as request_kinds
use Rattle.messages.proofs.transaction.Reads as transaction_reads
use Rattle.messages.proofs.transaction.Kinds as transaction_kinds

pub request_one : One request_kinds.ps request_kinds.r request_reads.Post
request_one κs a u v x y p q = p ∙ sym q

pub transaction_one : One transaction_kinds.ps transaction_kinds.r transaction_reads.Post
transaction_one κs a u v x y p q = p ∙ sym q
