-- How the code's reader is one of the crate samples.
pub mod Reads
