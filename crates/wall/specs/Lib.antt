-- What a reader has to believe of `wall`, in this order.
pub mod Text
pub mod Examples
pub mod Theory
