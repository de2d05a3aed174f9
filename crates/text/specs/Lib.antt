-- What a reader must believe of the text that the programs print.
pub mod Text
