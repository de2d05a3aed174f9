-- Laws of the refusals, for the crates above.
pub mod One
pub mod Names
mod Determined
