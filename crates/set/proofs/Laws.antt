-- What callers cite.
-- Assumes nothing.
-- the numbers of an answer tell it
pub use Rattle.set.proofs.NameLaws.{naming_one}
-- the part of memory that a full name is has its bytes
pub use Rattle.set.proofs.NameLaws.{full_part}
-- put refuses memory that is not well formed, and changes the set that other memory holds
pub use Rattle.set.proofs.CallLaws.{put_unformed, put_formed}
-- put at the count appends
pub use Rattle.set.proofs.Ends.{append_last}
