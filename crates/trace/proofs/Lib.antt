pub mod Ended
pub mod LogLemmas
pub mod UpgradeLemmas
