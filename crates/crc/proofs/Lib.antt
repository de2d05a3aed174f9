-- Laws of the checksum, for the proofs here and in the crates above.
mod Linear
pub mod Changed
pub mod Divides
pub mod Exactly
mod Folded
pub mod Sealed
pub mod Tried
mod Determined
