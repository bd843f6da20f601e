pub mod FillingLaws
pub mod TextLaws
pub mod DetectionLaws
pub mod MatrixLaws
pub mod OneMatrix
