-- Nothing is left open by a contract. (The laws of both wrappings: the crate modbus.)
mod Determined
