pub mod Marks
pub mod Workers
pub mod Tries
pub mod Takes
pub mod Readies
pub mod Endings
