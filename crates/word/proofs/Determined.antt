-- Nothing is left open by a contract of this crate: two results that it allows are equal.
-- Assumes nothing.
use mathlib.Core.Path.{sym, ◌∙◌}
use Rattle.word.proofs.One.{One}
use Rattle.word.proofs.even.Reads as even_reads
use Rattle.word.proofs.even.Kinds as even_kinds
use Rattle.word.proofs.type_of.Reads as type_of_reads
use Rattle.word.proofs.type_of.Kinds as type_of_kinds
use Rattle.word.proofs.spare_of.Reads as spare_of_reads
use Rattle.word.proofs.spare_of.Kinds as spare_of_kinds
use Rattle.word.proofs.id_of.Reads as id_of_reads
use Rattle.word.proofs.id_of.Kinds as id_of_kinds
use Rattle.word.proofs.value_of.Reads as value_of_reads
use Rattle.word.proofs.value_of.Kinds as value_of_kinds
use Rattle.word.proofs.check.Reads as check_reads
use Rattle.word.proofs.check.Kinds as check_kinds
use Rattle.word.proofs.build.Reads as build_reads
use Rattle.word.proofs.build.Kinds as build_kinds
use Rattle.word.proofs.matches.Reads as matches_reads
use Rattle.word.proofs.matches.Kinds as matches_kinds

pub even_one : One even_kinds.ps even_kinds.r even_reads.Post
even_one κs a u v x y p q = p ∙ sym q

pub type_of_one : One type_of_kinds.ps type_of_kinds.r type_of_reads.Post
type_of_one κs a u v x y p q = p ∙ sym q

pub spare_of_one : One spare_of_kinds.ps spare_of_kinds.r spare_of_reads.Post
spare_of_one κs a u v x y p q = p ∙ sym q

pub id_of_one : One id_of_kinds.ps id_of_kinds.r id_of_reads.Post
id_of_one κs a u v x y p q = p ∙ sym q

pub value_of_one : One value_of_kinds.ps value_of_kinds.r value_of_reads.Post
value_of_one κs a u v x y p q = p ∙ sym q

pub check_one : One check_kinds.ps check_kinds.r check_reads.Post
check_one κs a u v x y p q = p ∙ sym q

pub build_one : One build_kinds.ps build_kinds.r build_reads.Post
build_one κs a u v x y p q = p ∙ sym q

pub matches_one : One matches_kinds.ps matches_kinds.r matches_reads.Post
matches_one κs a u v x y p q = p ∙ sym q
