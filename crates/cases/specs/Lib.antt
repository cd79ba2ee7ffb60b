-- What a reader has to believe of `cases`, in this order.
pub mod Case
pub mod Table
pub mod Theory
