pub mod ListLemmas
pub mod OneList
pub mod FaultLemmas
pub mod PropertyLemmas
