-- The definitions of what is printed.
pub mod CheckTexts
pub mod Names
pub mod MatrixTexts
pub mod Refusals
pub mod TightReports
