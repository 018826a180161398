pub mod Rings
pub mod Calls
pub mod Beginnings
