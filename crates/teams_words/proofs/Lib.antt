pub mod Started
pub mod Joined
pub mod ValueLaws
pub mod Walked
pub mod Taken
pub mod Planned
