-- What a reader must believe of otencode's samples.
pub mod Encoded
