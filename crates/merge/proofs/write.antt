-- What is written into an image: copies, and rows, yields and order entries one after the other.
pub mod Copies
pub mod Written
pub mod BodyWritten
