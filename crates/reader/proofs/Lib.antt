-- Nothing is left open by a contract. (Why a reader keeps its promises: the crate samples.)
mod Determined
