-- Laws of the data values, for the proofs here and in the crates above.
pub mod Exact
pub mod Floats
pub mod Trip
pub mod Refusals
mod Tried
mod Determined
