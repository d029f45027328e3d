pub mod Meaning
pub mod Outcomes
pub mod Promises
pub mod Runs
