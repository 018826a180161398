pub mod Bytes
pub mod Gaps
pub mod Limits
pub mod Reading
pub mod Refusals
pub mod Rows
pub mod Words
