-- What a reader must believe of samples: Reading and Written are 01's rules, Run, Edges and Wrong the words of the promises.
pub mod Answers
pub mod Reader
pub mod Reading
pub mod Run
pub mod Written
pub mod Edges
pub mod Wrong
pub mod Tried
