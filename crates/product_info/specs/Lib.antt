pub mod Grammar
pub mod Laws
pub mod Blanks
pub mod Reading
pub mod RequirementText
pub mod Meeting
pub mod TaskText
pub mod Rows
