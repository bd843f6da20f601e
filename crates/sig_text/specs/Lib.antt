pub mod Document
pub mod Keys
pub mod Values
pub mod Tables
pub mod Texts
