-- The lemmas of `storage`. What crates above cite is `pub mod`.
mod Unpacking
mod SameCalls
pub mod Exact
mod Claims
mod Existence
mod Compared
mod SettledTables
pub mod Theory
