-- How a line in an array is one of the crate turns.
pub mod Reads
