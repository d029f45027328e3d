mod Cuts
mod Joins
mod Digits
mod Counting
mod Firsts
mod Decimals
pub mod Texts
