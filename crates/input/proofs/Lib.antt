-- Laws of a program's turns over its input, for the proofs here.
mod Turns
