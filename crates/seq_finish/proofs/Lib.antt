pub mod FirstWhere
pub mod RowLaws
pub mod PlaceLaws
pub mod StratLaws
pub mod OutcomeLaws
pub mod TakeLaws
