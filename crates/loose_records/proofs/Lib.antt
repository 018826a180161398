mod Lists
mod GrowingSteps
mod CommitSteps
mod GrowingTurns
pub mod Clocks
mod OneRecord
mod EventCounts
mod LowStamps
