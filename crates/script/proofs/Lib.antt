pub mod Laws
mod NumberLaws
mod HexLaws
mod LineLaws
