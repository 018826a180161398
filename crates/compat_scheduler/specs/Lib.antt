pub mod Bars
pub mod Counts
pub mod Finishes
pub mod Machines
pub mod Runs
pub mod Settings
pub mod Soundness
pub mod Starts
