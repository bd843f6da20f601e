pub mod Words
pub mod Plans
pub mod Command
pub mod Read
