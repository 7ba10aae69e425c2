pub mod Lists
pub mod Requests
