-- The one claim over the list of marks.
pub mod Claim
