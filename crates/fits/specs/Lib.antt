pub mod Types
pub mod Fits
pub mod Misfits
pub mod Steps
