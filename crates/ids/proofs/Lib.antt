-- Laws of the data ids, for the proofs here and in the crates above.
pub mod Numbers
pub mod Entries
mod Rows
pub mod Signed
mod Tried
mod Determined
