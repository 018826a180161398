pub mod Marks
pub mod Workers
pub mod Readies
pub mod Finishing
pub mod Tries
