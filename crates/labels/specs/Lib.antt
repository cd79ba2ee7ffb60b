-- What a reader has to believe of `labels`, in this order.
pub mod Lowest
pub mod Label
pub mod Name
pub mod Tight
pub mod Theory
pub mod Examples
