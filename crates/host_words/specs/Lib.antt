pub mod Requests
pub mod Targets
pub mod Words
pub mod Rows
