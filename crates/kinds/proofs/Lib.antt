-- Laws of the kinds' names, for the programs' lines.
pub mod Short
pub mod Numbered
mod Determined
