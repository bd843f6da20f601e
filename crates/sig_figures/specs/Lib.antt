pub mod Coverage
pub mod Columns
pub mod Sizes
pub mod Counts
pub mod Gathering
pub mod Loops
pub mod Figures
pub mod FiguresText
