pub mod Summary
pub mod Calls
