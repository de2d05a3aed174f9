-- Nothing is left open by a contract. (The laws of a message's checks and of its order: the crate modbus.)
mod Determined
