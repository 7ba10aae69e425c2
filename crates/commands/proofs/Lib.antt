pub mod Answering
pub mod Looked
pub mod MeetingLines
pub mod Named
pub mod Refused
pub mod Rewriting
