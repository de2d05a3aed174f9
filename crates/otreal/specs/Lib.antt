-- What a reader must believe of the lines that otreal prints.
pub mod Lines
