-- The code's reader and step, read as those of the crate samples: field by field, so nothing is lost and nothing is added.
-- Assumes nothing: these are definitions.
use Rattle.samples.specs.Reader.{Reader, Step}
use Rattle.reader.specs.declared.Reader as code
use Rattle.reader.specs.declared.Step as code_step

abbrev pub reader_of : code.Reader → Reader
reader_of r = record { phase = r.phase }

abbrev pub step_is : code_step.Step → Step
step_is s = record { reader = reader_of s.reader; answer = s.answer }

-- and back
abbrev pub kept : Reader → code.Reader
kept r = record { phase = r.phase }

abbrev pub kept_step : Step → code_step.Step
kept_step s = record { reader = kept s.reader; answer = s.answer }
