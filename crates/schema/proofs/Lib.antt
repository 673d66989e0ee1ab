-- What the proofs of several functions use.
mod Did
mod Within
mod Steps
mod Leaves
mod Headed
mod Nested
mod Stands
