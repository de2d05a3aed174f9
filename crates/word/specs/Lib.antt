-- What a reader must believe of the frame word: Frame is 01's rules, Checks how tests are ordered, Fields and Numbers the words of the
-- promises.
pub mod Checks
pub mod Frame
pub mod Fields
pub mod Numbers
