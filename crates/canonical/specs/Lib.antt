pub mod Decimal
pub mod Pieces
pub mod Canonical
pub mod Calls
pub mod Places
pub mod Wrote
pub mod Walk
pub mod Claims
