pub mod Shown
pub mod WorkerTurns
pub mod Workings
