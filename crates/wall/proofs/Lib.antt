-- The lemmas of `wall`.
mod Showing
pub mod Theory
