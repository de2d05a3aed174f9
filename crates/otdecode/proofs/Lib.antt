-- What the decoder's lines say, and that it doesn't matter how the samples come.
mod Shown
