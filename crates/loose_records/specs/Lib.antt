pub mod Entries
pub mod Settings
pub mod LooseRecords
pub mod Orders
pub mod Growing
pub mod Turns
pub mod Stamps
