pub mod Answers
pub mod Chosen
pub mod MeetingLines
pub mod Outcomes
pub mod Rewriting
pub mod Statements
