pub mod Rabin
pub mod Table
