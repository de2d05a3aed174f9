-- What a reader must believe of a page on which lines are collected.
pub mod Page
pub mod Reads
