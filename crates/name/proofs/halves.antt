-- What the proofs on the halves of a full name use.
pub mod Dots
