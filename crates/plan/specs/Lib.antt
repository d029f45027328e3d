pub mod Meaning
pub mod Turns
pub mod Following
