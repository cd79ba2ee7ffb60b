-- The lemmas of `sessions`.
pub mod Standing
pub mod Answers
pub mod Stands
pub mod Calls
pub mod SettledLines
pub mod Inputs
pub mod Theory
