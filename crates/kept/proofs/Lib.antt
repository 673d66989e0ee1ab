-- The theorem is in `Kept`, what it says row by row in `Good`; the other files lead up to it.
pub mod Kept
pub mod Good
pub mod Schemas
pub mod Meets
pub mod Forest
pub mod Lists
mod Passed
mod Numbers
mod Texts
mod Defaults
mod Fits
mod Leaves
mod Records
mod Members
