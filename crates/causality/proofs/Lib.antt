-- The lemmas of `causality`. What crates above cite is `pub mod`.
pub mod Newest
pub mod Events
pub mod Pasts
pub mod Clocks
pub mod Newer
pub mod Common
pub mod Knowledge
pub mod GoodPaths
pub mod Agreement
pub mod MessagePasts
pub mod Theory
