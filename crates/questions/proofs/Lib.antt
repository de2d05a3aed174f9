-- Nothing is left open by a contract. (Why a question is never refused: the crate modbus.)
mod Determined
