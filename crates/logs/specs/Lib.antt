-- What a reader must believe of a log and of its report: Layout and Report are 02's rules, Written and Means the words of the promises.
pub mod Layout
pub mod Report
pub mod Written
pub mod Means
