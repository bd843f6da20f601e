pub mod IndexLaws
pub mod DeskLaws
