-- The lemmas of `packed`. What crates above cite is `pub mod`.
-- The form: bytes, names, rows and lengths; a table and its two images; the check.
pub mod Small
mod Names
mod Rows
pub mod Sizes
mod Forms
mod Unpacked
mod Checks
mod OwnNumber
-- The calls, by their definitions: each is that on the unpacked form.
mod MetAlike
pub mod MetPacked
pub mod MilkedPacked
pub mod FreshPacked
pub mod SmallImages
pub mod Theory
-- The code: rows written one after the other, what is handed to the plain calls, and what these leave.
mod RowLoops
mod Joined
mod Handed
mod ByPlain
mod Packing
pub mod PackedLengths
