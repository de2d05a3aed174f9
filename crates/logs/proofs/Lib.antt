-- What a log and its report promise.
-- 02's own example
pub mod Tried
-- the test of the line numbers, and of the readings, by their places
pub mod Numbers
pub mod Ordered
-- readings and their bytes, both ways
pub mod Readings
-- logs and their bytes, both ways
pub mod Written
-- 9, 19 or a report
pub mod Answers
