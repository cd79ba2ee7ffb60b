-- The order marks: put together from sets of stalls, and as the numbers that the code holds.
pub mod Marks
pub mod OrderEntries
