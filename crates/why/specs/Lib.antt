pub mod Columns
pub mod Decisions
pub mod Wording
