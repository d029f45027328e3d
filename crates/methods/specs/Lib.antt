pub mod Ends
pub mod Routes
pub mod Places
pub mod Meaning
pub mod Sides
pub mod Linking
