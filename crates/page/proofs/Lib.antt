pub mod Lengths
pub mod Writes
pub mod Cuts
pub mod Breaking
pub mod Steps
