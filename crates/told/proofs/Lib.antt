mod Fair
mod Strings
mod Rows
pub mod Told
