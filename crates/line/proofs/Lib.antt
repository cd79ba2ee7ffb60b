-- The lemmas of `line`. What crates above cite is `pub mod`.
pub mod Hexadecimal
pub mod Parsing
pub mod Slots
pub mod Numbers
pub mod Lent
pub mod Replying
pub mod AtStall
pub mod MeetingLine
pub mod MilkingLine
pub mod HeardLine
pub mod SettledLine
pub mod Lines
pub mod Refusals
pub mod Images
pub mod Theory
