pub mod Indexing
pub mod MarksLemmas
pub mod MarksSteps
pub mod OpenLemmas
pub mod RisingLemmas
pub mod Telling
