-- The lemmas of `wilbryn`.
pub mod Turns
pub mod Runs
