pub mod Utf8
pub mod Characters
pub mod Tree
pub mod Seen
