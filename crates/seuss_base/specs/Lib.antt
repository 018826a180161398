pub mod Faults
pub mod Levels
pub mod Sinks
pub mod Sources
pub mod Tables
pub mod formers
