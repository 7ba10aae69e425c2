pub mod Shares
pub mod Seats
