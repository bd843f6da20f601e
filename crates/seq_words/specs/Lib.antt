pub mod Layout
pub mod Knowledge
pub mod Rule
pub mod Plays
pub mod Seats
pub mod Examples
pub mod Laws
pub mod Closing
