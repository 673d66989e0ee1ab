pub mod Values
pub mod Ends
pub mod Elements
pub mod Strings
pub mod Known
pub mod Members
pub mod Size
pub mod Marks
