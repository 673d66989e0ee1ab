mod Places
mod Closing
mod Visits
mod Undone
pub mod Known
mod Marking
mod Plain
mod Filling
mod Digits
mod OnePass
mod KeyNumber
mod Titled
pub mod Laws
