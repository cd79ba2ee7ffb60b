-- What a reader has to believe of `storage`, in this order.
pub mod Run
pub mod Examples
pub mod Claim
pub mod Theory
