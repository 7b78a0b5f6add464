pub mod Peers
pub mod Turns
pub mod Told
pub mod Places
pub mod Answered
pub mod Ports
pub mod Exchanges
