mod RowLaws
mod TableLaws
mod DefinitionLaws
mod FitLaws
pub mod MisfitLaws
