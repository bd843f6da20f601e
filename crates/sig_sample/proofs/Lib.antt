pub mod NameLaws
pub mod Accepted
