pub mod UpTo
pub mod Words
pub mod CoverageLaws
pub mod ColumnLaws
pub mod SizeLaws
pub mod LoopLaws
pub mod NamedLaws
