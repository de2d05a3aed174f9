-- Each entry of the box, case by case: a law for each case (`Laws`), and that each input is one of them (`Cases`).
-- Assumes nothing.
pub mod Laws
pub mod Cases
