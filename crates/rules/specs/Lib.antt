pub mod Unions
pub mod Fields
pub mod Symbols
pub mod Members
