-- What a reader must believe of the decoder's lines.
pub mod Lines
