-- The lemmas of `stream`. What crates above cite is `pub mod`.
pub mod Answers
pub mod Streams
pub mod Keeping
pub mod Buffers
pub mod Calls
