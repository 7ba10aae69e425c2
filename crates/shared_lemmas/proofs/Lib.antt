pub mod Lists
pub mod Numbers
pub mod Results
pub mod Truths
