-- What a reader has to believe of `packed`, in this order.
pub mod Form
pub mod Check
pub mod Calls
pub mod Examples
pub mod Theory
-- What the functions behind the calls say to each other, and the image that `Packed` has of a table.
pub mod Bytes
