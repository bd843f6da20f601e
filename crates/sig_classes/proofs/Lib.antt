pub mod ClassesLaws
pub mod GroupingLaws
pub mod InstanceLaws
pub mod PassedLaws
pub mod PassingLaws
pub mod RowWordsLaws
pub mod Shown
pub mod ProblemLaws
