-- The tried distances, computed. Tolerant and Bounds have the same wherever in a frame, proved.
-- Assumes nothing.
use mathlib.Core.Path.{refl}
use Rattle.samples.specs.Answers.{early, late}
use Rattle.samples.specs.Reading.{waited_of, start_of, middle_of, next_of, step_of}
use Rattle.samples.specs.Run.{answers_of}
use Rattle.samples.specs.Tried.{Gives, p11_cases, run_cases, edge_cases}
use Rattle.samples.proofs.Steps.{refusal_in}

pub p11 : Gives p11_cases
unfolding answers_of step_of waited_of start_of next_of middle_of
p11 = ((refusal_in early, refl, refl), (refl, (refl, tt)))

pub run : Gives run_cases
unfolding answers_of step_of waited_of start_of next_of middle_of
run = (refl, ((refusal_in late, refl, refl), ((refusal_in late, refl, refl), ((refusal_in late, refl, refl), ((refusal_in late, refl, refl), tt)))))

pub edges : Gives edge_cases
unfolding answers_of step_of waited_of start_of next_of middle_of
edges = (refl, tt)
