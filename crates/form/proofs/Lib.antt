mod Sequels
mod Places
mod Shapes
mod Decimal
pub mod Seven
mod Written
mod Words
pub mod Laws
