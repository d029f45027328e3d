mod Tries
mod Brings
mod Joins
mod Pairs
mod Lows
mod Decides
