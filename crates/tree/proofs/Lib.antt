-- The way to the theorems, which are in `Theorems` and `Cut`.
mod Standing
mod Digits
pub mod Utf8
mod Strings
mod Rests
mod Tokens
mod Frames
mod Values
mod Lists
mod Octets
pub mod Theorems
pub mod Cut
