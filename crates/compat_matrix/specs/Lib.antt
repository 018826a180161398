pub mod Rule
pub mod Certified
pub mod Members
pub mod Rules
pub mod Leasts
pub mod Certificates
pub mod Deciding
