mod DecodeLaws
pub mod Laws
