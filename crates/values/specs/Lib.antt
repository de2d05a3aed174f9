-- What a reader must believe of the data values.
pub mod Real
pub mod Typed
pub mod Numbers
