-- What every result has that a contract allows: said in the lowest crate, and passed on here.
pub use Rattle.refusals.proofs.One.{Always, One, OneRoom}
