-- The lemmas of `parlour`. What crates above cite is `pub mod`.
pub mod Names
pub mod Says
pub mod Verdicts
pub mod NewLabels
pub mod Merging
pub mod Images
pub mod Histories
pub mod Kept
pub mod Put
pub mod Milkings
pub mod Meetings
pub mod Splits
pub mod Runs
pub mod NotMilked
pub mod Existence
pub mod Theory
