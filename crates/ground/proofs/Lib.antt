pub mod Laws
mod Loops
