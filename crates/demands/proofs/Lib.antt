-- The demands are in `Demands`; the other files lead up to it.
pub mod Demands
mod Steps
mod Editing
mod Holding
mod Joining
mod Joined
mod Staying
mod Named
mod Refusals
mod Fitting
