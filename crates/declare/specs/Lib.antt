pub mod Sequence
pub mod Spots
