pub mod Detection
pub mod Valid
pub mod Filling
pub mod MatrixText
pub mod Laws
