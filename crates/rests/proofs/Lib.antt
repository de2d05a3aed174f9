-- Nothing is left open by a contract. (Why a tick of what is idle changes nothing: proofs/Resting.antt of the crates turns and promises.)
mod Determined
