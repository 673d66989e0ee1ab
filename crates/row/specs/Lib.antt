pub mod Kinds
pub mod Numbers
pub mod Layout
pub mod Rows
pub mod Sets
pub mod Memory
pub mod Tidy
