pub mod NumberLaws
pub mod RowLaws
pub mod SetLaws
pub mod Laws
mod ReadLaws
mod WriteLaws
mod TidyLaws
mod TestLaws
