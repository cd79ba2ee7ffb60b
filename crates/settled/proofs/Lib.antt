-- The lemmas of `settled`. What crates above cite is `pub mod`.
pub mod Extension
pub mod Counted
pub mod Settling
pub mod Theory
