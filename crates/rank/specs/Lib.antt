-- What a reader has to believe of `rank`, in this order.
pub mod Order
pub mod Theory
pub mod Examples
