-- What a reader has to believe of `settled`, in this order.
pub mod Count
pub mod Examples
pub mod Call
pub mod Theory
