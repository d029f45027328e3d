pub mod Trying
pub mod Exchanges
pub mod Joining
pub mod Revising
