-- What a reader has to believe of `causality`, in this order.
pub mod Event
pub mod Past
pub mod Latest
pub mod Clock
pub mod Best
pub mod Known
pub mod GoodPath
pub mod Meetings
pub mod Messages
pub mod Theory
pub mod Examples
