pub mod Beginning
pub mod Crossing
pub mod Keeping
pub mod Others
pub mod Seating
