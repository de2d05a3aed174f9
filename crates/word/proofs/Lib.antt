-- Laws of the frame word, for the proofs here and in the crates above.
pub mod Clash
pub mod Checks
pub mod Good
pub mod Parity
pub mod Fields
pub mod Numbers
pub mod Table
pub mod Parts
pub mod Match
pub mod Spare
pub mod Worked
pub mod One
mod Determined
