-- The lemmas of `traces`. What crates above cite is `pub mod`.
mod TurnedTables
mod EitherEnd
mod TakingPart
mod Counted
pub mod State
pub mod Runs
mod Trades
mod Naming
mod OwnOrder
pub mod Theory
