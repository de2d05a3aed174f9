-- What a reader must believe of a program's turns over its input.
pub mod Turns
