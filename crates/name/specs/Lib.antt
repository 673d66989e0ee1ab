pub mod Name
pub mod Full
pub mod Rule
pub mod Begin
