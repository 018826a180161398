-- The lemmas on what is printed.
pub mod ActionNames
pub mod AgreeingLists
pub mod LineLemmas
pub mod OrderLemmas
pub mod MatrixLemmas
pub mod RisingLemmas
pub mod RoundLemmas
pub mod SlotLemmas
pub mod TightLemmas
pub mod WordLemmas
pub mod WritingLemmas
