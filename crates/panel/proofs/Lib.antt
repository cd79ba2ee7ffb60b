-- The lemmas of `panel`. What crates above cite is `pub mod`.
pub mod Decimals
pub mod Puts
pub mod Rooms
pub mod Parts
pub mod ReadBack
pub mod Within
pub mod Fitting
pub mod Listed
pub mod Calls
pub mod Theory
