-- Laws of a page of lines, for the proofs here and in the programs.
pub mod Added
pub mod Broken
mod Determined
