-- The lemmas of `labels`. What crates above cite is `pub mod`.
pub mod Members
pub mod Free
pub mod Pairs
pub mod Rule
pub mod Unique
pub mod Limit
pub mod Theory
