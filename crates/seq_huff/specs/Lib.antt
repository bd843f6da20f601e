pub mod Choice
pub mod Bounds
pub mod Queues
pub mod Orders
pub mod Ranks
pub mod Potential
pub mod Estimates
