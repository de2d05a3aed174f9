-- Laws of a trace's lines, and what they say.
mod Says
mod Determined
mod Example
