-- What the proofs of several functions use, and the theorems about the automaton.
pub mod Laws
mod Items
mod Readers
mod Numbers
mod Strings
mod Keys
pub mod Parts
pub mod Completion
pub mod Longest
pub mod Depth
pub mod Theorems
