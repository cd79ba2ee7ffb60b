-- What a reader has to believe of `image`, in this order.
pub mod Stalls
pub mod Lanes
pub mod Layout
pub mod Encode
pub mod Fresh
pub mod Frame
pub mod Check
pub mod Refusal
pub mod Columns
pub mod Row
pub mod Examples
pub mod Made
pub mod Theory
