pub mod Characters
pub mod Breach
