pub mod Classes
pub mod Grouping
pub mod Labels
pub mod Passing
pub mod Refusals
