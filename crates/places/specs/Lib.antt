-- What a reader must believe of numbers at a place of a slice.
pub mod Bytes
