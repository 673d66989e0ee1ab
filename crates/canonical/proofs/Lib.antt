-- `Laws` and `PlaceLaws` are what callers cite; the others are what the proofs here use.
pub mod Laws
pub mod PlaceLaws
mod DecimalLaws
mod WriteLaws
mod PieceLaws
mod TextLaws
mod WalkLaws
mod CallLaws
mod FuelLaws
mod SameLaws
mod PrintLaws
