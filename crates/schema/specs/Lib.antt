pub mod Out
pub mod Schema
pub mod Did
