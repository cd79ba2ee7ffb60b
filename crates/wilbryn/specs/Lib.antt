-- What a reader has to believe of `wilbryn`.
pub mod Turn
