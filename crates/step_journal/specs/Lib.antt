pub mod Desks
pub mod Histories
pub mod Journals
pub mod Rules
pub use Rattle.atomic_table.specs.Seated
