pub mod Chains
pub mod Counts
pub mod Faults
pub mod Hands
pub mod Summary
pub mod Tables
pub mod Text
