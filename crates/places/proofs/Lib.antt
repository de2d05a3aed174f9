-- Laws of numbers at a place of a slice, for the proofs here and in the crates above.
pub mod Place
mod Determined
