pub mod Hands
pub mod RunStates
pub mod RunTurns
