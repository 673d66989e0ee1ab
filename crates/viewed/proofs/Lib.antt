pub mod Machine
pub mod Blocks
pub mod Literals
pub mod Values
pub mod Scanned
pub mod Nested
