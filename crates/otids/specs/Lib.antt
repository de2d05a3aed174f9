-- What a reader must believe of the list of ids.
pub mod Lines
