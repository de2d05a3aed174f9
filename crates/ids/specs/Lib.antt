-- What a reader must believe of the data ids, and of signed numbers.
pub mod Ids
pub mod Names
pub mod Signed
