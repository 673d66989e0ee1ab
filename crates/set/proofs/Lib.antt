-- `Laws` is what callers cite; the others are what the proofs here use.
pub mod Laws
mod Places
mod Appends
mod Accepts
mod Drafts
mod Ends
mod Rests
mod CallLaws
mod NameLaws
