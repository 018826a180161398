pub mod Canonical
pub mod Expressions
pub mod Items
pub mod Lines
pub mod Places
pub mod Printable
pub mod Statements
