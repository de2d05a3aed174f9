-- What the listing's lines say, that it doesn't matter how the input comes, and 01's example.
mod Says
mod Blocks
mod Whole
mod Example
