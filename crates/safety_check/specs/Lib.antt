pub mod Spans
pub mod Regions
pub mod RegionValues
pub mod Ends
pub mod Texts
pub mod Cases
pub mod Properties
pub mod Safety
