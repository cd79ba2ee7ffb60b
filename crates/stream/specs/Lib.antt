-- What a reader has to believe of `stream`, in this order.
pub mod Stream
pub mod Kept
pub mod Call
pub mod Examples
