-- Laws that callers cite (`Laws`, `Parts` for what stands between dots, `Bytewise` for the rule byte by byte, `Begin` for what a string that
-- keeps a rule can begin with), and what the proofs here use.
pub mod Laws
pub mod Parts
pub mod Bytewise
pub mod Begin
