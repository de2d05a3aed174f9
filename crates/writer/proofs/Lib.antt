-- The samples by their places, as the code makes them; and nothing is left open by a contract. (Why what is written is read: the crate
-- samples.)
mod Places
mod Determined
