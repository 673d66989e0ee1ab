-- What the proofs on reserved words use.
pub mod Words
