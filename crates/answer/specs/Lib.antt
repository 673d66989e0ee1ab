pub mod Numbers
pub mod Answers
pub mod Places
pub mod Limits
