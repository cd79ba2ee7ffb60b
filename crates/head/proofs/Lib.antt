-- The lemmas of `head`. What crates above cite is `pub mod`.
pub mod Milking
pub mod Freshness
pub mod Gathering
pub mod Listed
pub mod HeardLists
pub mod Occurrences
pub mod OneList
pub mod HeardCalls
pub mod SettledCounts
pub mod SettledLaws
pub mod Milked
pub mod Theory
