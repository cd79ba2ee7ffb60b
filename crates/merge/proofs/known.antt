-- What is known and the verdicts: in which columns a common meeting stands, a column as the code sees it, the verdicts as sets; and that all of it looks only within n.
pub mod Agreeing
pub mod Commons
pub mod Columns
pub mod Judging
