pub mod Known
pub mod Within
pub mod Spans
pub mod Holders
pub mod Gathering
