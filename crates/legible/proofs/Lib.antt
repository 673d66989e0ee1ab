-- The way to the theorems, which are in `Theorems`.
mod Digits
mod Names
mod Values
mod Pieces
mod Parts
mod Texts
mod Depths
mod Plain
pub mod Theorems
