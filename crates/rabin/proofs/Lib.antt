pub mod Laws
mod Entries
mod Signed
mod Loop
mod Digits
