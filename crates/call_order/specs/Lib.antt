-- What the contracts speak of.
pub mod Answers
pub mod Calls
pub mod Cycles
pub mod Firsts
pub mod LevelLists
pub mod Levels
pub mod Marks
