-- The label: sets of labels, the lowest that a set lacks, the labels that the rows have, why one is always there, and why two heads need one fewer.
pub mod Lowest
pub mod LabelSets
pub mod LabelRows
pub mod Counting
pub mod NewLabel
pub mod TwoHeads
