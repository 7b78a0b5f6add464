pub mod Endings
pub mod Reports
pub mod Serving
pub mod Calls
pub mod Working
