-- What the contracts of `panel` cite.
pub mod Decimal
pub mod Panel
pub mod Reading
pub mod Writing
pub mod Theory
pub mod Examples
