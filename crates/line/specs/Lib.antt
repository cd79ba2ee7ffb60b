-- What a reader has to believe of `line`, in this order.
pub mod Digits
pub mod Frame
pub mod Parlour
pub mod Answer
pub mod Refused
pub mod Asked
pub mod Examples
pub mod Theory
