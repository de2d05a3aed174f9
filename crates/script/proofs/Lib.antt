-- Laws of a script's lines.
mod Determined
mod Example
mod Numbers
mod Bytes
mod Fields
