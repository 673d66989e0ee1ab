-- Laws for whoever goes through an array as the rules do: the elements that were passed are those before the place.
-- Assumes nothing.
pub use Rattle.rules.proofs.Earlier.{before_end, Passed, passed_start, passed_next, passed_before}
