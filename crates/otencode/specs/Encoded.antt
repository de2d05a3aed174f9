-- What goes out for a block: the samples of its words, one word behind the other.
-- Assumes nothing: these are definitions.
use Rattle.std.specs.Prelude.{ℕ, zero, suc, ◌*◌, List, [], ◌++◌}
use Rattle.places.specs.Bytes.{word_at}
use Rattle.samples.specs.Written.{samples_of}

-- those of the first n words
unfoldable pub encoded : ℕ → List ℕ → List ℕ
encoded zero s = []
encoded (suc n) s = encoded n s ++ samples_of (word_at s (n * 4))
