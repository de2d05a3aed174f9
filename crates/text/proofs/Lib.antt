-- Laws of text, for the proofs here and in the programs.
pub mod Puts
mod Determined
