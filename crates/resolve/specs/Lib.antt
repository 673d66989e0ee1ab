pub mod Kinds
pub mod Rules
pub mod Resolve
pub mod Steps
