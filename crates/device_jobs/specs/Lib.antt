pub mod Outcomes
pub mod Printed
pub mod Jobs
pub mod Leaves
pub mod Working
pub mod Unlocking
