pub mod Outcomes
pub mod Joining
pub mod Laws
