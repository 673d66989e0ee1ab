-- The way to the theorems, which are in `Theorems`; what a state of the automaton leaves open is in `Rests`.
mod Endings
mod Takes
mod Classes
mod Strings
mod Numbers
mod Bracketed
mod Values
pub mod Rests
mod OneByte
mod Derived
mod Nesting
pub mod Theorems
