pub mod Alls
pub mod Calls
pub mod Gathered
pub mod Onces
pub mod Settling
pub mod Steps
