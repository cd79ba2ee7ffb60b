-- What a reader has to believe of `traces`, in this order.
pub mod Own
pub mod Answer
pub mod Examples
pub mod Theory
