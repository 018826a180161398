pub mod Runs
pub mod Terms
pub mod Bodies
pub mod Foreseen
pub mod Answers
pub mod Orders
pub mod Decisions
pub mod Verdicts
