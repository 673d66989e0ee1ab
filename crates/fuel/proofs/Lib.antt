pub mod Deep
pub mod Forms
mod Rows
pub mod Fuel
pub mod Fits
