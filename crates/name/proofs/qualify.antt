-- What the proofs on full names use.
mod Kept
