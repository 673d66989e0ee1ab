pub mod Checks
pub mod Spots
pub mod Names
pub mod Forms
pub mod Notes
