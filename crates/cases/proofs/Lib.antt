-- The proof over the table.
pub mod Theory
