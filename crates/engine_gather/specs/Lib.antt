pub mod Gathering
pub mod Settled
pub mod Columns
pub mod Parting
pub mod Seeing
