-- Nothing is left open by a contract. (The laws of a reply's bytes and of a room: the crate modbus.)
mod Determined
