-- The meeting: both images afterwards are those of the merged table; the call, refused or done; and what callers may use of it.
pub mod AfterMeeting
pub mod MeetingWritten
pub mod Together
pub mod AfterLaws
pub mod Outcomes
