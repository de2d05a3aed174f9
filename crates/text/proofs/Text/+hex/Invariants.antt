-- The measure of `hex` is the number of digits.
-- Assumes nothing.
use Rattle.text.proofs.Text.+hex.Given as goal

abbrev pub decreases-hex : goal.decreases-hex
decreases-hex l = l.count
