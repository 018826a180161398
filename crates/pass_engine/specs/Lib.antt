pub mod Engines
pub mod Calls
pub mod Beginnings
pub mod Gathering
