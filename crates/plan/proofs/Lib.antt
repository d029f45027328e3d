mod Lowest
mod Mapped
mod Ups
pub mod Present
mod Sums
mod Takes
