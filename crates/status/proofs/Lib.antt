-- Nothing is left open by a contract. (What the status is good for, and that it is the history's: the crate turns.)
mod Determined
