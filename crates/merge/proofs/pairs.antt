-- Rows of pairs: filled from the front, and mixed from both heads.
pub mod PairRows
pub mod Mixing
