pub mod FileLists
pub mod Writes
pub mod OpenFiles
pub mod TwinLemmas
pub mod HonestLemmas
