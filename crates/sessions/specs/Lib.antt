-- What a reader has to believe of `sessions`, in this order.
pub mod Lines
pub mod Answer
pub mod Call
pub mod Session
pub mod Claim
pub mod Input
pub mod Examples
pub mod Stream
pub mod Theory
