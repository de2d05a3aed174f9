-- What a reader must believe of a script.
pub mod Digits
pub mod Frames
pub mod Lines
