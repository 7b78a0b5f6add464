pub mod Draws
pub mod Images
pub mod Metadata
pub mod Products
