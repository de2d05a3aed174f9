-- What a reader must believe of a trace.
pub mod Lines
