pub mod Words
pub mod Numbers
pub mod Hex
pub mod Put
pub mod Lines
pub mod Input
