pub mod Totals
pub mod Closing
pub mod LegalHistories
pub mod Owns
pub mod Steps
