-- Lemmas by subject.
pub mod CallLemmas
pub mod CheckedLemmas
pub mod KeptCalls
pub mod KeptCats
pub mod KeptJoins
pub mod KeptProcedures
pub mod KeptPrograms
pub mod KeptStatements
pub mod LevelLemmas
pub mod LevelRounds
pub mod MarkLemmas
pub mod NumberLemmas
pub mod NumberPlaces
pub mod OneLevelling
pub mod OrderLemmas
pub mod StatementLayers
