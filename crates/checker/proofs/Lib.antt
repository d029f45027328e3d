pub mod Settling
pub mod Stepping
pub mod Histories
pub mod Turns
