pub mod Nesting
pub mod Plain
pub mod Digits
