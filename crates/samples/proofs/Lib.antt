-- The laws of reading and writing samples, and the promises: ReadBack and Again (what is written is read; nothing older than the last
-- answer is kept), Tolerant (errors don't add up), Straight (how straight the edges were), Only (nothing else is read), Once (samples tell one
-- frame), Bounds and Tried (what is refused, with its number; P11 and the other tried distances), Recovers (no reader stays deaf), Room (a lent
-- room). The code that keeps to the rules: the crates reader and writer.
pub mod Cases
pub mod Steps
pub mod Runs
pub mod Stretches
pub mod Straight
pub mod Tolerant
pub mod Lengths
pub mod Room
pub mod ReadBack
pub mod Again
pub mod Told
pub mod ToldEdge
pub mod Only
pub mod Bounds
pub mod Tried
pub mod Settles
pub mod Recovers
pub mod Once
