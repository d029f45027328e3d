pub mod Facts
pub mod Meaning
pub mod Roles
