pub mod Labels
pub mod Ends
pub mod Steps
