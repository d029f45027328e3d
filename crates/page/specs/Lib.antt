pub mod Answers
pub mod Rows
pub mod Lines
pub mod Reading
