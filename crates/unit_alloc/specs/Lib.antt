pub mod Owning
pub mod Log
pub mod Marks
pub mod Chains
pub mod Laws
