-- Nothing is left open by a contract of this crate but whether a write fails, and at which address a lent room lies: two fresh pages that are
-- allowed are the same, and so are two pages at exit, where neither write fails and where both do.
-- Assumes nothing.
use Rattle.std.proofs.Common.{◌≡◌, ℕ, refl, sym, ap, ◌∙◌, Ok, Err}
use Rattle.std.specs.declared.io.Print as print_trait
use Rattle.std.specs.declared.io.Error.{Error}
use contract.Lifetimes.{Lfts}
use denote.RattleType.{RattleType}
use denote.Param.Laws.{Laws}
use denote.Triple.Clauses.{AtExit}
use mir.Syntax.{Dict}
use borrow.Fn.Kinds.{Dens, res_t, ended_of}
use Rattle.print.specs.Page.{Page}
use Rattle.print.specs.Reads.{page_of}
use Rattle.print.proofs.Page.over.Reads as over_reads
use Rattle.print.proofs.Page.over.Kinds as over_kinds
use Rattle.print.proofs.Page.flush.Reads as flush_reads
use Rattle.print.proofs.Page.flush.Kinds as flush_kinds
use Rattle.print.proofs.add.Reads as add_reads
use Rattle.print.proofs.add.Kinds as add_kinds
use Rattle.print.proofs.Page.add.Reads as page_add_reads
use Rattle.print.proofs.Page.add.Kinds as page_add_kinds
use Rattle.print.proofs.Page.add_some.Reads as some_reads
use Rattle.print.proofs.Page.add_some.Kinds as some_kinds

pub over_one : (κs : Lfts 1) (a : Dens κs over_kinds.ps) (u v : (res_t over_kinds.r κs).Denot)
    (x y : AtExit (ended_of 1 over_kinds.ps over_kinds.r) κs) →
    over_reads.Post κs a u x → over_reads.Post κs a v y → page_of u ≡ page_of v
over_one κs a u v x y p q = p.0 ∙ sym q.0

module _ (T : RattleType) (laws : Laws T) (prints : print_trait.Ghosts T.Denot) (dict : Dict) where
  -- of a page that is lent as its bytes: both have gone well
  pub add_one : (κs : Lfts 3) (a : Dens κs (add_kinds.ps T laws)) (u v : (res_t (add_kinds.r T laws) κs).Denot)
      (x y : AtExit (ended_of 3 (add_kinds.ps T laws) (add_kinds.r T laws)) κs) (m n : ℕ) → u ≡ Ok m → v ≡ Ok n →
      add_reads.Post T laws prints dict κs a u x → add_reads.Post T laws prints dict κs a v y → (m ≡ n) × (x.1.0.now ≡ y.1.0.now)
  add_one κs a u v x y m n eu ev p q =
      let f = rw eu at p in
      let g = rw ev at q in
      (ap (λ (h : Page). h.used) (f.0 ∙ sym g.0), ap (λ (h : Page). h.bytes) (f.0 ∙ sym g.0))

  -- a write has failed in both
  pub add_fails_one : (κs : Lfts 3) (a : Dens κs (add_kinds.ps T laws)) (u v : (res_t (add_kinds.r T laws) κs).Denot)
      (x y : AtExit (ended_of 3 (add_kinds.ps T laws) (add_kinds.r T laws)) κs) (d e : Error) → u ≡ Err d → v ≡ Err e →
      add_reads.Post T laws prints dict κs a u x → add_reads.Post T laws prints dict κs a v y → x.1.0.now ≡ y.1.0.now
  add_fails_one κs a u v x y d e eu ev p q =
      let f = rw eu at p in
      let g = rw ev at q in
      f.1.0 ∙ sym g.1.0

  -- both have gone well
  pub flush_one : (κs : Lfts 4) (a : Dens κs (flush_kinds.ps T laws)) (u v : (res_t (flush_kinds.r T laws) κs).Denot)
      (x y : AtExit (ended_of 4 (flush_kinds.ps T laws) (flush_kinds.r T laws)) κs) (m n : Unit {0}) → u ≡ Ok m → v ≡ Ok n →
      flush_reads.Post T laws prints dict κs a u x → flush_reads.Post T laws prints dict κs a v y →
      (m ≡ n) × (page_of x.0.now ≡ page_of y.0.now)
  flush_one κs a u v x y m n eu ev p q = let f = rw eu at p in let g = rw ev at q in (refl, f.0 ∙ sym g.0)

  pub page_add_one : (κs : Lfts 4) (a : Dens κs (page_add_kinds.ps T laws)) (u v : (res_t (page_add_kinds.r T laws) κs).Denot)
      (x y : AtExit (ended_of 4 (page_add_kinds.ps T laws) (page_add_kinds.r T laws)) κs) (m n : Unit {0}) → u ≡ Ok m → v ≡ Ok n →
      page_add_reads.Post T laws prints dict κs a u x → page_add_reads.Post T laws prints dict κs a v y →
      (m ≡ n) × (page_of x.0.now ≡ page_of y.0.now)
  page_add_one κs a u v x y m n eu ev p q = let f = rw eu at p in let g = rw ev at q in (refl, f.0 ∙ sym g.0)

  pub add_some_one : (κs : Lfts 4) (a : Dens κs (some_kinds.ps T laws)) (u v : (res_t (some_kinds.r T laws) κs).Denot)
      (x y : AtExit (ended_of 4 (some_kinds.ps T laws) (some_kinds.r T laws)) κs) (m n : Unit {0}) → u ≡ Ok m → v ≡ Ok n →
      some_reads.Post T laws prints dict κs a u x → some_reads.Post T laws prints dict κs a v y →
      (m ≡ n) × (page_of x.0.now ≡ page_of y.0.now)
  add_some_one κs a u v x y m n eu ev p q = let f = rw eu at p in let g = rw ev at q in (refl, f.0 ∙ sym g.0)

  -- a write has failed in both
  pub flush_fails_one : (κs : Lfts 4) (a : Dens κs (flush_kinds.ps T laws)) (u v : (res_t (flush_kinds.r T laws) κs).Denot)
      (x y : AtExit (ended_of 4 (flush_kinds.ps T laws) (flush_kinds.r T laws)) κs) (d e : Error) → u ≡ Err d → v ≡ Err e →
      flush_reads.Post T laws prints dict κs a u x → flush_reads.Post T laws prints dict κs a v y → page_of x.0.now ≡ page_of y.0.now
  flush_fails_one κs a u v x y d e eu ev p q = let f = rw eu at p in let g = rw ev at q in f.1.0 ∙ sym g.1.0

  pub page_add_fails_one : (κs : Lfts 4) (a : Dens κs (page_add_kinds.ps T laws)) (u v : (res_t (page_add_kinds.r T laws) κs).Denot)
      (x y : AtExit (ended_of 4 (page_add_kinds.ps T laws) (page_add_kinds.r T laws)) κs) (d e : Error) → u ≡ Err d → v ≡ Err e →
      page_add_reads.Post T laws prints dict κs a u x → page_add_reads.Post T laws prints dict κs a v y → page_of x.0.now ≡ page_of y.0.now
  page_add_fails_one κs a u v x y d e eu ev p q = let f = rw eu at p in let g = rw ev at q in f.1.0 ∙ sym g.1.0

  pub add_some_fails_one : (κs : Lfts 4) (a : Dens κs (some_kinds.ps T laws)) (u v : (res_t (some_kinds.r T laws) κs).Denot)
      (x y : AtExit (ended_of 4 (some_kinds.ps T laws) (some_kinds.r T laws)) κs) (d e : Error) → u ≡ Err d → v ≡ Err e →
      some_reads.Post T laws prints dict κs a u x → some_reads.Post T laws prints dict κs a v y → page_of x.0.now ≡ page_of y.0.now
  add_some_fails_one κs a u v x y d e eu ev p q = let f = rw eu at p in let g = rw ev at q in f.1.0 ∙ sym g.1.0
