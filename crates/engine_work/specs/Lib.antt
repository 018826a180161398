pub mod Benches
pub mod Acts
pub mod Records
