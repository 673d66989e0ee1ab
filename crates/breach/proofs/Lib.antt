-- The theorem that the function is the rule (`Theorems`), laws of characters and of the function, and turns of the loops (`Turns`).
pub mod Letters
mod Laws
mod Turns
pub mod Theorems
