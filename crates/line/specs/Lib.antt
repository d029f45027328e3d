pub mod Bytes
pub mod Fields
pub mod Numbers
pub mod Letters
pub mod Parse
pub mod Texts
