-- What a reader must believe of the lines that a replay prints.
pub mod Printed
