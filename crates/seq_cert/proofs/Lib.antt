pub mod OrderLaws
pub mod NumberOrder
pub mod PickedStates
pub mod Appended
pub mod TreeText
pub mod AllBytes
pub mod WordForms
pub mod TreeWords
pub mod Spells
pub mod FormLaws
pub mod HeadLaws
pub mod BodyLaws
pub mod Ends
pub mod WrittenForm
pub mod Loops
mod PlaceLaws
