pub mod Answers
pub mod Lazy
