-- `values::real::real_back` meets its contract: equal bits are the same float, and the guess is right wherever there is a number to find.
-- Assumes nothing.
use Rattle.std.specs.Prelude.{Ok}
use Rattle.std.proofs.Common.{◌≡◌, sym, ap, ◌∙◌, subst, Bool, true, not, T, arith}
use lib.Ieee.{binary32, is_nan, to_bits}
use Rattle.word.proofs.Clash.{clash}
use Rattle.values.specs.Real.{real_of, negative, sized}
use Rattle.values.proofs.Exact.{real_exact}
use Rattle.values.proofs.Floats.{not_nan, bits_apart}
use Rattle.values.proofs.real.real_back.Goals as goal
use Rattle.values.proofs.real.real_back.Goals.{else-not-is_nan-via-then-not-is_nan+else-real_of-x, else-not-is_nan-via-else-not-is_nan}

pub float_to_bits-real_of : goal.float_to_bits-real_of
float_to_bits-real_of c =
    let g = c.guess-raw.result in
    rw c.real_of.ensures (not_nan (real_of g) (negative g) (sized g) 256 (real_exact g (omega arith)))

pub returns-then-real_of-x : goal.returns-then-real_of-x
returns-then-real_of-x c =
    let g = c.guess-raw.result in
    let same : c.args.x ≡ real_of g = sym (bits_apart c.real_of.result c.args.x c.real_of.type_inv c.well_formed.0.1 c.if-real_of-x.true) ∙ c.real_of.ensures in
    record {
      given = λ raw h e. ap Ok (c.guess-raw.ensures raw h e);
      found = λ raw e. let i : g ≡ raw = cc in (omega arith, same ∙ ap real_of i);
      number = λ n e. clash cc;
    }

pub returns-else-not-is_nan : goal.returns-else-not-is_nan
returns-else-not-is_nan c =
    record {
      given = λ raw h e.
          elim c.else-not-is_nan.branch [
            | else-not-is_nan-via-then-not-is_nan+else-real_of-x w ↦
                absurd (w.if-real_of-x.false (ap (to_bits binary32) (w.real_of.ensures ∙ ap real_of (c.guess-raw.ensures raw h e) ∙ sym e)))
            | else-not-is_nan-via-else-not-is_nan w ↦
                let is : is_nan (real_of raw) ≡ true = ap is_nan (sym e) ∙ sym c.is_nan.ensures.value ∙ w.if-not-is_nan.false in
                absurd (subst (λ (b : Bool). T (not b)) is (not_nan (real_of raw) (negative raw) (sized raw) 256 (real_exact raw h)))
          ];
      found = λ raw e. clash cc;
      number = λ n e. cc;
    }
