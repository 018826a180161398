pub mod Given
pub mod Closing
pub mod Parting
pub mod Listing
pub mod Gathers
pub mod Gathered
pub mod Made
