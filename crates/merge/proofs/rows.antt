-- The row of each stall, by value.
pub mod BodyRows
