-- What a reader must believe of the kinds' names.
pub mod Names
