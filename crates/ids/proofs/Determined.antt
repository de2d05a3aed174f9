-- Nothing is left open by a contract of this crate: two results that it allows are equal.
-- Assumes nothing.
use mathlib.Core.Path.{sym, ◌∙◌}
use Rattle.word.proofs.One.{One}
use Rattle.ids.proofs.Kind.number.Reads as number_reads
use Rattle.ids.proofs.Kind.number.Kinds as number_kinds
use Rattle.ids.proofs.KindFromU8.from.Reads as from_reads
use Rattle.ids.proofs.KindFromU8.from.Kinds as from_kinds
use Rattle.ids.proofs.kind_of.Reads as kind_of_reads
use Rattle.ids.proofs.kind_of.Kinds as kind_of_kinds
use Rattle.ids.proofs.readable.Reads as readable_reads
use Rattle.ids.proofs.readable.Kinds as readable_kinds
use Rattle.ids.proofs.writable.Reads as writable_reads
use Rattle.ids.proofs.writable.Kinds as writable_kinds

pub number_one : One number_kinds.ps number_kinds.r number_reads.Post
number_one κs a u v x y p q = p ∙ sym q

pub from_one : One from_kinds.ps from_kinds.r from_reads.Post
from_one κs a u v x y p q = p ∙ sym q

pub kind_of_one : One kind_of_kinds.ps kind_of_kinds.r kind_of_reads.Post
kind_of_one κs a u v x y p q = p ∙ sym q

pub readable_one : One readable_kinds.ps readable_kinds.r readable_reads.Post
readable_one κs a u v x y p q = p ∙ sym q

pub writable_one : One writable_kinds.ps writable_kinds.r writable_reads.Post
writable_one κs a u v x y p q = p ∙ sym q
