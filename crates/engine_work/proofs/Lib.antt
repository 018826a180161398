pub mod Benches
pub mod Crossing
pub mod Lists
pub mod Seats
