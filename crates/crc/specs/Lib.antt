-- What a reader must believe of the checksum.
pub mod Crc
pub mod Divides
