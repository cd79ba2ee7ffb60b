-- What a reader has to believe of `parlour`, in this order.
pub mod Item
pub mod History
pub mod Table
pub mod Examples
pub mod Call
pub mod Run
pub mod Claim
pub mod Verdict
pub mod NotMilked
pub mod Theory
