mod Earlier
mod Listed
mod Entering
mod Heads
mod Surely
pub mod Laws
