pub mod Effects
pub mod Depends
pub mod Masks
