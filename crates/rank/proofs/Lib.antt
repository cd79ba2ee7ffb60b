-- The lemmas of `rank`. What crates above cite is `pub mod`.
pub mod Before
pub mod Ranking
pub mod Sorted
pub mod Exchange
pub mod Insertion
pub mod Theory
