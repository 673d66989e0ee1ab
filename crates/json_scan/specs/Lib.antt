pub mod Json
pub mod Meets
