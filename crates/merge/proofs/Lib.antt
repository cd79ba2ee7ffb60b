-- The lemmas of `merge`, by theme: those of a module of the code stand beside its functions' proofs, and are listed in a file of its name (label.antt, known.antt ..).
-- Here are those that several themes use, and the laws for callers. What crates above cite is `pub mod`.
pub mod ByStalls
pub mod Frames
pub mod Heads
pub mod Latests
pub mod Theory
