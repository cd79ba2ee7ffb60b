-- What a reader has to believe of `head`, in this order.
pub mod Calls
pub mod Heard
pub mod Settled
pub mod Theory
pub mod Examples
-- What the functions behind the heard list say to each other. No caller sees this.
pub mod Gathered
