-- `Laws` is what callers cite, `Theorems` and `LeftOver` what the definitions imply; the others are what the proofs here use.
pub mod Laws
pub mod Theorems
pub mod LeftOver
mod FormedLaws
mod CopyLaws
mod ReadLaws
mod CallLaws
