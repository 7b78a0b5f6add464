pub mod FoundLemmas
pub mod AskedLemmas
