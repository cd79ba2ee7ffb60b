-- What a reader has to believe of `merge`, in this order.
pub mod Known
pub mod Verdict
pub mod Label
pub mod Merged
pub mod Call
pub mod Theory
pub mod Examples
pub mod CallExamples
pub mod Crowded
-- What the functions of `merge` say to each other. No caller sees this.
pub mod ByStall
pub mod Views
pub mod LabelSet
pub mod Body
pub mod Orders
