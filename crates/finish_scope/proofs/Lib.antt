pub mod Crossing
pub mod Owners
pub mod RunCauses
pub mod Sending
pub mod Settled
