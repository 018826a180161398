pub mod Points
pub mod Numbers
pub mod Rows
pub mod Sequences
pub mod Symbols
pub mod Texts
pub mod Cases
pub mod Counts
