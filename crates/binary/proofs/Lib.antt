pub mod Laws
mod Turns
mod Widths
