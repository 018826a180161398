-- What the laws speak of.
pub mod Alternatives
pub mod Calls
pub mod Forms
pub mod Kinds
pub mod Literals
pub mod Rejections
