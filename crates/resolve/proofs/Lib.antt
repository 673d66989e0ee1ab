pub mod KindLaws
pub mod MemoryLaws
pub mod ResolveLaws
pub mod TreeLaws
pub mod Laws
mod DefaultLaws
mod ChainLaws
mod LineLaws
pub mod RuleLaws
pub mod GrowLaws
