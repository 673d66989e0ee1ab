pub mod Lists
pub mod Calls
pub mod Naming
pub mod Steps
