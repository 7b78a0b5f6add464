pub mod Counters
pub mod Pairs
pub mod Ready
pub mod Calls
pub mod Stood
pub mod Ways
